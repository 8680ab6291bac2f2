-- Each return is one case of `header_desk`.
use Rattle.app_calls.specs.Given.{header_desk}
use Rattle.whole.specs.laws.Row.{case_yes, case_no}
use Rattle.std.proofs.Common.{refl, eq-eqb, ne_eqb}
use Rattle.app_calls.proofs.given.after_header.Goals as goal

pub returns-then-s-eq0 : goal.returns-then-s-eq0
unfolding header_desk
returns-then-s-eq0 c = case_yes _ _ _ _ (eq-eqb _ _ c.if-s-eq0.true) refl

pub returns : goal.returns
unfolding header_desk
returns c = case_no _ _ _ _ (ne_eqb _ _ c.if-s-eq0.false) refl
