-- `code::read::full_runs` meets its contract. The loop's invariant (`Leaping`): k runs are taken, and what is left to take is the same leap. Assumes nothing.
use Prim.Native.Nat.{◌-◌}
use Rattle.code.specs.laws.Quick.{Leaping}
use Rattle.code.proofs.read.full_runs.Given as goal

abbrev pub invariant-loop-k : goal.invariant-loop-k
invariant-loop-k l = Leaping l.n l.i l.m l.c.at l.c.krp l.initial.kp l.kp l.j l.k

abbrev pub decreases-loop-k : goal.decreases-loop-k
decreases-loop-k l = l.m - l.k
