-- The short frame's writer as a C program meets it: the number is returned, the length is stored behind the last reference, lists are lent, and the quantisers
-- are ten for Y and ten for Cb and Cr. Checker and planner promise what `plan` does (`plan_fault`, `MakePlanCall`).
-- (01 is this project's scope document, 02 its change requests, 001 is MS-RDPRFX: README, "What 01 is".)
use Rattle.std.specs.Prelude.{ℕ, ◌≡◌, List, ℤ, length}
use Rattle.quants.specs.declared.Quants.{Quants}
use Rattle.frame_write.specs.FrameWrite.{work_left}
use Rattle.frame_write.specs.Picked.{frame_picked}
use Rattle.short_write.specs.Short.{own_fault, short_fault}
use Rattle.panel.specs.Edge.{WriterCall}

-- luma's and chroma's ten
abbrev pub sets_for : List ℕ → List ℕ → Quants
sets_for luma chroma = record { luma = record { v = luma }; chroma = record { v = chroma } }

pub record WriteShortCall (w h mode : ℕ) (luma chroma : List ℕ) (index : ℕ) (old new ks : List ℕ) (list list' scratch scratch' : List ℤ)
    (out out' : List ℕ) (size n : ℕ) : Type 0 where
  pub wrote :
      WriterCall (short_fault w h mode (sets_for luma chroma) index old new ks (length list) (length scratch) (length out))
      (frame_picked index w h mode (sets_for luma chroma) new ks) out out' size n
  pub first : list' ≡ work_left (own_fault w h mode (sets_for luma chroma) (length old) (length new) (length list) (length scratch)) list
  pub second : scratch' ≡ work_left (own_fault w h mode (sets_for luma chroma) (length old) (length new) (length list) (length scratch)) scratch
