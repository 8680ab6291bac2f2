-- The digits from the place reached on give the whole number (`digits_on`); the measure is what is left.
use Rattle.std.proofs.Common.{sym, refl, ◌∙◌, arith}
use Rattle.app_pictures.specs.Ppm.{figure_at}
use Rattle.app_pictures.specs.laws.Ppm.{digits_end, digits_on, digits_none}
use Rattle.app_pictures.proofs.ppm.number.Goals as goal

pub loop-at-init : goal.loop-at-init
unfolding figure_at
loop-at-init c = refl

pub returns-then-not-is_digit : goal.returns-then-not-is_digit
returns-then-not-is_digit c =
    digits_end _ _ _ c.loop-at-test.true (sym c.is_digit.ensures ∙ c.if-not-is_digit.true) ∙ sym c.loop-at.invariant

pub overflow_add-at : goal.overflow_add-at
overflow_add-at c = omega arith

pub loop-at-smaller : goal.loop-at-smaller
loop-at-smaller c = omega arith

pub loop-at-preserved : goal.loop-at-preserved
loop-at-preserved c =
    c.loop-at.invariant ∙ digits_on _ _ _ _ _ c.loop-at-test.true (sym c.is_digit.ensures ∙ c.if-not-is_digit.false) c.more-value.ensures
    c.digit.ensures.0

pub returns : goal.returns
returns c = digits_none _ _ _ c.loop-at-test.false ∙ sym c.loop-at.invariant
