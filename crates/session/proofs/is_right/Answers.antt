-- `is_right` meets its contract: each return is read off the row of `right`.
use mathlib.Core.Path.{refl}
use native.Mathlib.Omega.{arith}
use Rattle.whole.specs.laws.Row.{passes, fails, ne_is, eq_is}
use Rattle.session.specs.Header.{right}
use Rattle.session.specs.laws.Header.{area_fits}
use Rattle.session.proofs.is_right.Goals as goal

pub returns-then-s-tiles_over : goal.returns-then-s-tiles_over
unfolding right
returns-then-s-tiles_over c = fails _ _ _ _ (ne_is refl c.tiles_over.ensures.0 c.if-s-tiles_over.true) refl

pub returns-then-s-tiles_over-2 : goal.returns-then-s-tiles_over-2
unfolding right
returns-then-s-tiles_over-2 c =
    passes _ _ _ _ (eq_is refl c.tiles_over.ensures.0 c.if-s-tiles_over.false)
    (fails _ _ _ _ (ne_is refl c.tiles_over-2.ensures.0 c.if-s-tiles_over-2.true) refl)

pub overflow_mul-result : goal.overflow_mul-result
overflow_mul-result c =
    let a = c.args.s in
    omega (arith, area_fits a.width a.height (omega arith) (omega arith))

pub returns : goal.returns
unfolding right
returns c =
    passes _ _ _ _ (eq_is refl c.tiles_over.ensures.0 c.if-s-tiles_over.false)
    (passes _ _ _ _ (eq_is refl c.tiles_over-2.ensures.0 c.if-s-tiles_over-2.false) refl)
