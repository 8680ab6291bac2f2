-- Each turn keeps it, and at the end it is what is promised.
use mathlib.Core.Path.{refl}
use native.Mathlib.Omega.{arith}
use Rattle.bands.specs.Bands.{good_to}
use Rattle.bands.specs.laws.Band.{bad_low, bad_high, good_next}
use Rattle.bands.proofs.is_good.Goals as goal

pub loop-i-init : goal.loop-i-init
unfolding good_to
loop-i-init c = (omega arith, refl)

pub returns-then-x-lt6 : goal.returns-then-x-lt6
returns-then-x-lt6 c = bad_low c.args.q.v c.loop-i.i (omega arith) (omega arith)

pub returns-then-x-gt15 : goal.returns-then-x-gt15
returns-then-x-gt15 c = bad_high c.args.q.v c.loop-i.i (omega arith) (omega arith) (omega arith)

pub loop-i-preserved : goal.loop-i-preserved
loop-i-preserved c = (omega arith, good_next c.args.q.v c.loop-i.i c.loop-i.invariant.1 (omega arith) (omega arith))
