-- Each return is one case of `value_at`.
use mathlib.Core.Path.{refl, ◌∙◌}
use mir.Syntax.{w32}
use native.Mathlib.Omega.{arith}
use borrow.Author.Tests.{le-leb, lt-leb}
use Rattle.whole.specs.laws.Near.{back_ok}
use Rattle.whole.specs.laws.Row.{case_yes, case_no}
use Rattle.sample.specs.Compare.{value_at}
use Rattle.sample.proofs.stages.value_at.Goals as goal

pub returns-then-i-ge4160 : goal.returns-then-i-ge4160
unfolding value_at
returns-then-i-ge4160 c = case_yes _ _ _ _ (le-leb 4160 c.args.i c.if-i-ge4160.true) refl

pub returns : goal.returns
unfolding value_at
returns c =
    case_no _ _ _ _ (lt-leb 4160 c.args.i (omega (arith, c.if-i-ge4160.false))) (back_ok w32 c.value.result c.value.type_inv ∙ c.value.ensures)
