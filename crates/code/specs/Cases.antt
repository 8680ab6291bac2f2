-- 01's (p) cases of the component code, in one statement, proved of the definitions by computation.
-- (01 is this project's scope document, 02 its change requests, 001 is MS-RDPRFX: README, "What 01 is".)
use Rattle.std.specs.Prelude.{ℕ, ◌≡◌, List, [], ◌∷◌, ℤ, pos, negsuc, length, replicate}
use Rattle.bits.specs.Bytes.{Written}
use Rattle.code.specs.Fold.{unfold_z}
use Rattle.code.specs.Read.{reading, read_fault, read_bits, read_into}
use Rattle.code.specs.OneCode.{code}
use Rattle.code.specs.declared.read.Reading.TheVariants.{Done}

-- in both modes: 1 is RLGR1, 4 is RLGR3
abbrev pub Both : (ℕ → Type 0) → Type 0
Both P = P 1 × P 4

-- a first value, then zeros: 4,096 numbers
abbrev pub first : ℤ → List ℤ
first x = x ∷ replicate 4095 (pos 0)

-- the bytes are the code of the list, and the reader hands back the list
pub record Coded (mode : ℕ) (s : List ℕ) (zs : List ℤ) : Type 0 where
  pub written : Written s (code mode zs)
  pub answer : reading mode 4096 s ≡ Done (length (code mode zs))
  pub list : (before : List ℤ) → length before ≡ 4096 → read_into mode s before ≡ zs

pub record Cases : Type 0 where
  -- "All zeros: 00 00 00 in both modes (21 bits)."
  pub zeros : Both (λ mode. Coded mode (0x00 ∷ 0x00 ∷ 0x00 ∷ []) (first (pos 0)))
  pub zeros_bits : Both (λ mode. length (code mode (first (pos 0))) ≡ 21)
  -- "00 00: cut."
  pub two_cut : Both (λ mode. read_fault mode 4096 (0x00 ∷ 0x00 ∷ []) ≡ 1)
  -- "00 00 00 00: tail."
  pub four_tail : Both (λ mode. read_fault mode 4096 (0x00 ∷ 0x00 ∷ 0x00 ∷ 0x00 ∷ []) ≡ 11)
  pub four_bits : Both (λ mode. read_bits mode 4096 (0x00 ∷ 0x00 ∷ 0x00 ∷ 0x00 ∷ []) ≡ 21)
  -- "Empty: cut."
  pub empty_cut : Both (λ mode. read_fault mode 4096 [] ≡ 1)
  -- "+1 then zeros: 80 00 00 00 in both modes; -1 then zeros: A0 00 00 00."
  pub plus : Both (λ mode. Coded mode (0x80 ∷ 0x00 ∷ 0x00 ∷ 0x00 ∷ []) (first (pos 1)))
  pub minus : Both (λ mode. Coded mode (0xA0 ∷ 0x00 ∷ 0x00 ∷ 0x00 ∷ []) (first (negsuc 0)))
  -- "Folded 0, 1, 2, 3 are 0, -1, 1, -2."
  pub folded : (unfold_z 0 ≡ pos 0) × (unfold_z 1 ≡ negsuc 0) × (unfold_z 2 ≡ pos 1) × (unfold_z 3 ≡ negsuc 1)
