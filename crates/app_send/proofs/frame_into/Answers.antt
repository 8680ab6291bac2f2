-- What the frame writer answers is handed on (`wrote_handed`).
use Rattle.std.proofs.lemmas.Result.{err_from_is_err_and}
use Rattle.short_write.specs.laws.Answer.{wrote_handed}
use Rattle.app_send.proofs.frame_into.Goals as goal

pub returns-in_err-write_frame_sets : goal.returns-in_err-write_frame_sets
returns-in_err-write_frame_sets c =
    let p = err_from_is_err_and c.from_residual.result c.from_residual.ensures.1 in
    rw (p.1, p.2) (wrote_handed _ _ _ _ _ c.in_err-write_frame_sets.ensures.wrote)

pub returns : goal.returns
returns c = wrote_handed _ _ _ _ _ c.in_ok-write_frame_sets.ensures.wrote
