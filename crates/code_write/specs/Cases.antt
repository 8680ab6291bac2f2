-- 01's (p) cases of the component code, on the writer's side, in one statement: the bytes written, 0 where they have room, 13 with one byte less.
-- (01 is this project's scope document, 02 its change requests, 001 is MS-RDPRFX: README, "What 01 is".)
use Rattle.std.specs.Prelude.{ℕ, ◌<◌, ◌≡◌, List, [], ◌∷◌, ℤ, pos, negsuc, length}
use Rattle.code.specs.Cases.{Both, first}
use Rattle.code_write.specs.Write.{bytes_of, write_fault}

-- the list's bytes are s; they are written where they have room, and 13 is the answer with one byte less
pub record CodeSent (mode : ℕ) (s : List ℕ) (zs : List ℤ) : Type 0 where
  pub bytes : bytes_of mode zs ≡ s
  pub done : write_fault mode zs (length s) ≡ 0
  pub short : (room : ℕ) → room < length s → write_fault mode zs room ≡ 13

pub record WriteCases : Type 0 where
  -- "All zeros: 00 00 00 in both modes"
  pub zeros : Both (λ mode. CodeSent mode (0x00 ∷ 0x00 ∷ 0x00 ∷ []) (first (pos 0)))
  -- "+1 then zeros: 80 00 00 00 in both modes; -1 then zeros: A0 00 00 00."
  pub plus : Both (λ mode. CodeSent mode (0x80 ∷ 0x00 ∷ 0x00 ∷ 0x00 ∷ []) (first (pos 1)))
  pub minus : Both (λ mode. CodeSent mode (0xA0 ∷ 0x00 ∷ 0x00 ∷ 0x00 ∷ []) (first (negsuc 0)))
