-- One code for one list: 01's demands on the component reader, for both modes and every input. `code mode zs` is the code of the list zs.
-- (01 is this project's scope document, 02 its change requests, 001 is MS-RDPRFX: README, "What 01 is".)
use Rattle.std.specs.Prelude.{ℕ, ◌≤◌, ◌≡◌, Bool, true, List, map, eqb, ℤ, pos, nat_abs, length, get_or}
use Rattle.bits.specs.Bytes.{Written}
use Rattle.code.specs.Fold.{fold_z}
use Rattle.code.specs.Code.{code_of}
use Rattle.wire.specs.Mode.{is_mode}

-- the code of a list of signed numbers, by the mode's number (4 is RLGR3)
abbrev pub code : ℕ → List ℤ → List Bool
code mode zs = code_of (eqb mode 4) (map fold_z zs)

-- 4,096 numbers from -32,767 to 32,767
pub record Listed (zs : List ℤ) : Type 0 where
  pub len : length zs ≡ 4096
  pub range : (i : ℕ) → nat_abs (get_or zs i (pos 0)) ≤ 32767

-- a call that gets to its code: the mode is one of the two, the list has 4,096 places, the bytes are at most 65,535
pub record Call (mode : ℕ) (s : List ℕ) (before : List ℤ) : Type 0 where
  pub allowed : is_mode mode ≡ true
  pub room : length before ≡ 4096
  pub small : length s ≤ 65535

-- ---- (a) done with the list zs exactly if zs is 4,096 numbers in range and the bytes are its code, filled up

pub record Exactly (mode : ℕ) (s : List ℕ) (before zs : List ℤ) : Type 0 where
  pub call : Call mode s before
  pub list : Listed zs
  pub bytes : Written s (code mode zs)
