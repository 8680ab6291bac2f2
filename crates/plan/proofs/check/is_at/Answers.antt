-- `is_at` meets its contract: `listed_at` in its two cases.
use mathlib.Core.Path.{refl}
use native.Mathlib.Omega.{arith}
use borrow.Author.Tests.{lt-ltb, le-ltb}
use Rattle.whole.specs.laws.Row.{passes, fails}
use Rattle.plan.specs.Runs.{listed_at}
use Rattle.plan.proofs.check.is_at.Goals as goal

pub overflow_cast-result : goal.overflow_cast-result
overflow_cast-result c = omega (arith, c.type_inv.picks c.args.i)

pub returns-then-i-picks : goal.returns-then-i-picks
unfolding listed_at
returns-then-i-picks c = passes _ _ _ _ (lt-ltb _ _ c.if-i-picks.true) refl

pub returns : goal.returns
unfolding listed_at
returns c = fails _ _ _ _ (le-ltb _ _ c.if-i-picks.false) refl
