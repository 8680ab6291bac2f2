-- `check_plan` meets its contract: the pictures' fault, and where there is none the list's.
use Rattle.std.proofs.Common.{sym, ◌∙◌}
use Rattle.std.proofs.lemmas.Result.{err_from_is_err_and}
use Rattle.whole.specs.laws.Row.{stops, goes_on}
use Rattle.wire.specs.laws.Refusal.{number_pos}
use Rattle.plan.specs.Plan.{plan_fault}
use Rattle.plan.specs.laws.Changed.{pictures_are}
use Rattle.plan.proofs.check.check_plan.Goals as goal

pub returns-in_err-pictures_judge : goal.returns-in_err-pictures_judge
unfolding plan_fault
returns-in_err-pictures_judge c =
    let e = c.in_err-pictures_judge.ensures in
    let p = err_from_is_err_and c.from_residual.result c.from_residual.ensures.1 in
    rw (p.1, p.2) (stops _ _ _ (λ z. number_pos _ (e ∙ z)) e)

pub picks_judge-requires : goal.picks_judge-requires
picks_judge-requires c = pictures_are _ _ _ _ c.in_ok-pictures_judge.ensures

pub returns : goal.returns
unfolding plan_fault
returns c = goes_on _ _ _ (sym c.in_ok-pictures_judge.ensures) c.picks_judge.ensures
