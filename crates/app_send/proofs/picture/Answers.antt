-- One law for each kind of head.
use Rattle.std.proofs.Common.{ap, ◌∙◌}
use Rattle.std.proofs.lemmas.Result.{err_from_is_err_and}
use Rattle.std.specs.Prelude.{Err}
use Rattle.app_send.specs.laws.Stream.{picture_is, picture_none}
use Rattle.app_send.proofs.picture.Goals as goal

pub returns-in_err-head : goal.returns-in_err-head
returns-in_err-head c =
    let p = err_from_is_err_and c.from_residual.result c.from_residual.ensures.1 in
    picture_none _ _ _ _ _ _ _ c.in_err-head.ensures (p.1 ∙ ap Err p.2)

pub returns : goal.returns
returns c = picture_is _ _ _ _ _ _ _ _ c.in_ok-head.ensures c.rest.ensures c.make.ensures
