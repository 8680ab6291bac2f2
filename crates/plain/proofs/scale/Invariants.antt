-- What the loop keeps, and what falls with each turn.
use Rattle.plain.specs.laws.Fit.{Scaling}
use Rattle.plain.proofs.scale.Given as goal

abbrev pub invariant-loop-k : goal.invariant-loop-k
invariant-loop-k l = Scaling l.q.v l.initial.work l.work l.k
