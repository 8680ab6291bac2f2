-- `bit_size` meets its contract: how often the number was halved, and what is left of it, are `Halved`; where nothing is left the count is its size.
use native.Mathlib.Omega.{arith}
use Rattle.plain_code.specs.laws.Size.{halved_start, halved_again, halved_end, halved_few}
use Rattle.plain_code.proofs.bit_size.Goals as goal

pub loop-left-init : goal.loop-left-init
loop-left-init c = halved_start c.args.g

pub overflow_add-n : goal.overflow_add-n
overflow_add-n c = omega (arith, halved_few _ _ _ (omega (arith, c.ranges.g)) c.loop-left.invariant)

pub loop-left-smaller : goal.loop-left-smaller
loop-left-smaller c = omega arith

pub loop-left-preserved : goal.loop-left-preserved
loop-left-preserved c = halved_again _ _ _ (λ z. omega arith) c.loop-left.invariant

pub returns : goal.returns
returns c = halved_end _ _ _ (omega arith) c.loop-left.invariant
