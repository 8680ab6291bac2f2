-- The place behind what was written, or the refusal (`made_behind`).
use mathlib.Core.Path.{refl}
use Rattle.std.proofs.lemmas.Result.{err_from_is_err_and}
use Rattle.app_send.proofs.after.Goals as goal

pub returns-in_err-w : goal.returns-in_err-w
returns-in_err-w c =
    let p = err_from_is_err_and c.from_residual.result c.from_residual.ensures.1 in
    rw (p.1, p.2, c.in_err-w.was) refl

pub returns : goal.returns
returns c = rw c.in_ok-w.was refl
