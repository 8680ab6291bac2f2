-- The two heads, the first one's fault first.
use mathlib.Core.Path.{refl, sym}
use Rattle.std.proofs.lemmas.Result.{err_from_is_err_and}
use Rattle.app_send.proofs.pair.read.Goals as goal

pub returns-in_err-one : goal.returns-in_err-one
returns-in_err-one c =
    let p = err_from_is_err_and c.from_residual.result c.from_residual.ensures.1 in
    rw (p.1, p.2, sym c.in_err-one.ensures) refl

pub returns-in_err-two : goal.returns-in_err-two
returns-in_err-two c =
    let p = err_from_is_err_and c.from_residual-in_err-two.result c.from_residual-in_err-two.ensures.1 in
    rw (p.1, p.2, sym c.in_ok-one.ensures, sym c.in_err-two.ensures) refl

pub returns : goal.returns
returns c = rw (sym c.in_ok-one.ensures, sym c.in_ok-two.ensures) c.sized.ensures
