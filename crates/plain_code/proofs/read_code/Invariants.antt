-- What the loop keeps, and what falls with each turn.
use Prim.Native.Nat.{◌-◌}
use Rattle.plain_code.specs.laws.Turn.{Going}
use Rattle.plain_code.proofs.read_code.Given as goal

abbrev pub invariant-loop-i : goal.invariant-loop-i
invariant-loop-i l = Going l.rlgr3 l.s l.list l.c l.i

abbrev pub decreases-loop-i : goal.decreases-loop-i
decreases-loop-i l = 4096 - l.i
