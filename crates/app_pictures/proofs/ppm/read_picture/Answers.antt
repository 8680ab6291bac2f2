-- The head, and then what `sized` says of it.
use Rattle.std.proofs.Common.{sym, refl}
use Rattle.std.proofs.lemmas.Result.{err_from_is_err_and}
use Rattle.app_pictures.specs.Ppm.{picture_of}
use Rattle.app_pictures.proofs.ppm.read_picture.Goals as goal

pub returns-in_err-read_head : goal.returns-in_err-read_head
unfolding picture_of
returns-in_err-read_head c =
    let p = err_from_is_err_and c.from_residual.result c.from_residual.ensures.1 in
    rw (p.1, p.2, sym c.in_err-read_head.ensures) refl

pub returns : goal.returns
unfolding picture_of
returns c = rw (sym c.in_ok-read_head.ensures) c.sized.ensures
