-- Invariant (`Sizing`): n is the size of the code of the places passed, and the code goes on from place i; `sizing_few` keeps n small.
use Prim.Native.Nat.{◌-◌}
use mathlib.Core.List.{map}
use lib.ListN.{length}
use Rattle.code.specs.Fold.{fold_z}
use Rattle.code_write.specs.laws.Writing.{Sizing}
use Rattle.code_write.proofs.put.list_size.Given as goal

abbrev pub invariant-loop-i : goal.invariant-loop-i
invariant-loop-i l = Sizing l.rlgr3 (map fold_z l.xs) l.n l.i l.kp l.krp

abbrev pub decreases-loop-i : goal.decreases-loop-i
decreases-loop-i l = length l.xs - l.i
