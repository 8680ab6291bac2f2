-- The fields one behind the other, and the first that is not there ends it.
use Rattle.std.proofs.Common.{sym, refl, ◌∙◌}
use Rattle.std.proofs.lemmas.Result.{err_from_is_err_and}
use Rattle.whole.specs.laws.Row.{passes, fails}
use Rattle.app_pictures.specs.Ppm.{head_of}
use Rattle.app_pictures.proofs.ppm.read_head.Goals as goal

pub returns-then-not-is_p6 : goal.returns-then-not-is_p6
unfolding head_of
returns-then-not-is_p6 c = fails _ _ _ _ (sym c.is_p6.ensures ∙ c.if-not-is_p6.true) refl

pub returns-in_err-w : goal.returns-in_err-w
unfolding head_of
returns-in_err-w c =
    let p = err_from_is_err_and c.from_residual.result c.from_residual.ensures.1 in
    passes _ _ _ _ (sym c.is_p6.ensures ∙ c.if-not-is_p6.false)
    (rw (p.1, p.2, sym c.in_err-w.ensures) refl)

pub returns-in_err-h : goal.returns-in_err-h
unfolding head_of
returns-in_err-h c =
    let p = err_from_is_err_and c.from_residual-in_err-h.result c.from_residual-in_err-h.ensures.1 in
    passes _ _ _ _ (sym c.is_p6.ensures ∙ c.if-not-is_p6.false)
    (rw (p.1, p.2, sym c.in_ok-w.ensures, sym c.in_err-h.ensures) refl)

pub returns-in_err-most : goal.returns-in_err-most
unfolding head_of
returns-in_err-most c =
    let p = err_from_is_err_and c.from_residual-in_err-most.result c.from_residual-in_err-most.ensures.1 in
    passes _ _ _ _ (sym c.is_p6.ensures ∙ c.if-not-is_p6.false)
    (rw (p.1, p.2, sym c.in_ok-w.ensures, sym c.in_ok-h.ensures, sym c.in_err-most.ensures) refl)

pub returns : goal.returns
unfolding head_of
returns c =
    passes _ _ _ _ (sym c.is_p6.ensures ∙ c.if-not-is_p6.false)
    (rw (sym c.in_ok-w.ensures, sym c.in_ok-h.ensures, sym c.in_ok-most.ensures) c.closed.ensures)
