-- Invariant: from i up to j stand only zeros (`Zeros`), and j is not past the end; four more at a time (`zeros_four`).
use Prim.Native.Nat.{◌-◌, ◌≤◌}
use mathlib.Core.List.{map}
use Rattle.code.specs.Fold.{fold_z}
use Rattle.code_write.specs.laws.Item.{Zeros}
use Rattle.code_write.proofs.put.fours.Given as goal

abbrev pub invariant-loop-j : goal.invariant-loop-j
invariant-loop-j l = Zeros (map fold_z l.xs) l.i l.j × (l.j ≤ l.end)

abbrev pub decreases-loop-j : goal.decreases-loop-j
decreases-loop-j l = l.end - l.j
