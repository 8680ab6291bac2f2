-- Refused by the check, or handed on what the frame writer answers (`as_listed`); a list that the check takes has its tiles (`list_there`).
use mathlib.Core.Path.{◌∙◌}
use Rattle.std.proofs.lemmas.Result.{err_from_is_err_and}
use Rattle.whole.specs.laws.Row.{stops}
use Rattle.frame_write.specs.laws.Picked.{as_listed}
use Rattle.plan.specs.laws.Answer.{why_pos}
use Rattle.short_write.specs.laws.Answer.{refused_short, onward_short, wrote_handed}
use Rattle.short_write.specs.laws.Short.{list_there}
use Rattle.short_write.proofs.send_listed.Goals as goal

pub returns-in_err-picks_judge : goal.returns-in_err-picks_judge
returns-in_err-picks_judge c =
    let e = c.in_err-picks_judge.ensures in
    let p = err_from_is_err_and c.from_residual.result c.from_residual.ensures.1 in
    rw (p.1, p.2) (refused_short _ _ _ _ (stops _ _ _ (λ z. why_pos _ (e ∙ z)) e))

pub send-requires : goal.send-requires
send-requires c =
    let a = c.args in
    (c.requires.0, list_there a.job.width a.job.height a.old.now a.new.now a.picks.now c.requires.1 c.in_ok-picks_judge.ensures)

pub returns-in_err-send : goal.returns-in_err-send
returns-in_err-send c =
    let a = c.args in
    let j = c.args.job in
    let r = c.from_residual-in_err-send in
    let p = err_from_is_err_and r.result r.ensures.1 in
    rw (p.1, p.2)
    (onward_short _ _ _ _ _ _ c.in_ok-picks_judge.ensures
    (wrote_handed _ _ _ _ _ (as_listed a.new.now j.width j.height j.mode j.quants j.index a.picks.now a.out.now _ _ c.in_err-send.ensures)))

pub returns : goal.returns
returns c =
    let a = c.args in
    let j = c.args.job in
    onward_short _ _ _ _ _ _ c.in_ok-picks_judge.ensures
    (wrote_handed _ _ _ _ _ (as_listed a.new.now j.width j.height j.mode j.quants j.index a.picks.now a.out.now _ _ c.in_ok-send.ensures))
