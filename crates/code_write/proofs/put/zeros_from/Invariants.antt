-- The loop's invariant: from i up to j stand only zeros (`Zeros`).
use mathlib.Core.List.{map}
use Rattle.code.specs.Fold.{fold_z}
use Rattle.code_write.specs.laws.Item.{Zeros}
use Rattle.code_write.proofs.put.zeros_from.Given as goal

abbrev pub invariant-loop-j : goal.invariant-loop-j
invariant-loop-j l = Zeros (map fold_z l.xs) l.i l.j
