-- Invariant (`Writing`): what is put is the code of the places passed, and the rest of the code is that of the rest; a turn goes further (`writing_onward`).
use Prim.Native.Nat.{◌-◌}
use mathlib.Core.List.{map}
use lib.ListN.{length}
use Rattle.code.specs.Fold.{fold_z}
use Rattle.code_write.specs.laws.Writing.{Writing}
use Rattle.code_write.proofs.put.put_list.Given as goal

abbrev pub invariant-loop-s : goal.invariant-loop-s
invariant-loop-s l = Writing l.rlgr3 (map fold_z l.xs) l.initial.out l.initial.s.pen l.out l.s.pen l.s.i l.s.kp l.s.krp

abbrev pub decreases-loop-s : goal.decreases-loop-s
decreases-loop-s l = length l.xs - l.s.i
