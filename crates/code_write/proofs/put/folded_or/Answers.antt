-- Past the last place there is nothing but the 0 that stands for it.
use Prim.Native.Nat.{◌≤◌}
use mathlib.Core.Path.{sym}
use mathlib.Core.List.{map}
use native.Mathlib.Omega.{arith}
use lib.ListN.{length, get_or-eq_default, length-map}
use Rattle.code.specs.Fold.{fold_z}
use Rattle.code_write.proofs.put.folded_or.Goals as goal

pub returns-else-i-xs : goal.returns-else-i-xs
returns-else-i-xs c =
    let xs = c.args.xs.now in
    let h : length (map fold_z xs) ≤ c.args.i = omega (arith, c.if-i-xs.false, length-map xs fold_z) in sym (get_or-eq_default (map fold_z xs) 0 h)
