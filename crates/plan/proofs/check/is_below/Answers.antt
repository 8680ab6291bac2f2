-- Each turn keeps it, and at the end it is what is promised.
use Rattle.std.proofs.Common.{arith, lt-ltb, le-ltb}
use Rattle.plan.specs.Plan.{below}
use Rattle.plan.specs.laws.All.{all_none, all_more, all_fails, all_fewer}
use Rattle.plan.proofs.check.is_below.Goals as goal

pub loop-k-init : goal.loop-k-init
loop-k-init c = (omega arith, all_none _)

pub overflow_cast-k : goal.overflow_cast-k
overflow_cast-k c = omega (arith, c.type_inv.picks c.loop-k.k-index)

pub returns-then-n-k : goal.returns-then-n-k
unfolding below
returns-then-n-k c = all_fails _ _ c.loop-k.k-index c.loop-k-test.true (le-ltb _ _ c.if-n-k.true)

pub loop-k-preserved : goal.loop-k-preserved
loop-k-preserved c = (omega arith, all_more _ c.loop-k.k-index c.loop-k.invariant.1 (lt-ltb _ _ c.if-n-k.false))

pub returns : goal.returns
unfolding below
returns c = all_fewer _ _ c.loop-k.k-index c.loop-k-test.false c.loop-k.invariant.1
