-- A signed number in range, as the machine has it.
-- Assumes nothing.
use Rattle.std.specs.Prelude.{ℕ, ◌≤◌, ◌≡◌, List, map, ℤ, pos, negsuc, get_or}
use Rattle.std.proofs.Common.{sym, arith, to_z, of_z, to_z-of_z}
use Rattle.std.specs.Int.Signed.{mag}
use Rattle.std.specs.Int.{w32}
use Rattle.code.specs.Code.{InRange}
use Rattle.code.specs.Fold.{fold_z}
use Rattle.code.specs.laws.Fold.{fold_at}

fold_mag : (z : ℤ) → fold_z z ≤ 65534 → mag z ≤ 32767
unfolding fold_z
fold_mag (pos n) h = omega arith
fold_mag (negsuc n) h = omega arith

module _ (zs : List ℤ) (i : ℕ) (r : InRange (map fold_z zs)) where
  small : fold_z (get_or zs i (pos 0)) ≤ 65534
  small = rw (← fold_at zs i) (r i)

  -- what the machine reads of a number in range is that number
  same : to_z w32 (of_z w32 (get_or zs i (pos 0))) ≡ get_or zs i (pos 0)
  same = to_z-of_z {w = w32} (record { sfits = omega (arith, fold_mag (get_or zs i (pos 0)) small) })

  pub read_mag : mag (to_z w32 (of_z w32 (get_or zs i (pos 0)))) ≤ 32767
  read_mag = rw same (fold_mag (get_or zs i (pos 0)) small)

  pub read_fold : fold_z (to_z w32 (of_z w32 (get_or zs i (pos 0)))) ≡ get_or (map fold_z zs) i 0
  read_fold = rw same (sym (fold_at zs i))
