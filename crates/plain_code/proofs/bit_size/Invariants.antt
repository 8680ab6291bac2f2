-- What the loop keeps, and what falls with each turn.
use Rattle.plain_code.specs.laws.Size.{Halved}
use Rattle.plain_code.proofs.bit_size.Given as goal

abbrev pub invariant-loop-left : goal.invariant-loop-left
invariant-loop-left l = Halved l.g l.n l.left

abbrev pub decreases-loop-left : goal.decreases-loop-left
decreases-loop-left l = l.left
