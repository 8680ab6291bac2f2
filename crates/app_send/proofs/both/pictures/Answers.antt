-- The files' own faults (`files_none`), or the two pictures (`files_is`).
use Rattle.std.proofs.lemmas.Result.{err_from_is_err_and}
use Rattle.app_send.specs.laws.Both.{files_none, files_is}
use Rattle.app_send.proofs.both.pictures.Goals as goal

pub returns-in_err-p : goal.returns-in_err-p
returns-in_err-p c =
    let p = err_from_is_err_and c.from_residual.result c.from_residual.ensures.1 in
    rw (p.1, p.2) (files_none _ _ _ _ _ _ _ _ _ c.in_err-p.ensures)

pub returns : goal.returns
returns c = files_is _ _ _ _ _ _ _ _ _ _ _ _ c.in_ok-p.ensures c.rest.ensures c.rest-2.ensures c.make.ensures
