-- What the loop keeps, and what falls with each turn.
use Rattle.plain.specs.laws.Fit.{Summing}
use Rattle.plain.proofs.sum.Given as goal

abbrev pub invariant-loop-i : goal.invariant-loop-i
invariant-loop-i l = Summing l.initial.work l.work l.s l.i
