-- The size first, which bounds both products (`few_words`, `few_over`); then what is lent.
use Rattle.std.specs.Prelude.{refl}
use Rattle.std.proofs.Common.{sym, ◌∙◌, arith}
use Rattle.session.specs.Header.{tiles_over}
use Rattle.whole.specs.laws.Row.{passes, fails}
use Rattle.tile_diff.specs.Pictures.{tiles_fault}
use Rattle.tile_diff.specs.laws.Request.{size_is, few_words}
use Rattle.tile_diff.specs.laws.Pictures.{few_over}
use Rattle.tile_diff.proofs.glasses.tiles_fault.Goals as goal

pub returns-then-not-is_size : goal.returns-then-not-is_size
unfolding tiles_fault
returns-then-not-is_size c = fails _ _ _ _ (sym c.is_size.ensures ∙ c.if-not-is_size.true) refl

pub overflow_add-tiles : goal.overflow_add-tiles
overflow_add-tiles c =
    let s = size_is c.args.width c.args.height (sym c.is_size.ensures ∙ c.if-not-is_size.false) in
    omega (arith, s.wider)

pub overflow_add-tiles-2 : goal.overflow_add-tiles-2
overflow_add-tiles-2 c =
    let s = size_is c.args.width c.args.height (sym c.is_size.ensures ∙ c.if-not-is_size.false) in
    omega (arith, s.high)

pub overflow_mul-tiles : goal.overflow_mul-tiles
overflow_mul-tiles c =
    let s = size_is c.args.width c.args.height (sym c.is_size.ensures ∙ c.if-not-is_size.false) in
    omega (arith, few_over c.args.width c.args.height s.wider s.high)

pub overflow_mul-height : goal.overflow_mul-height
overflow_mul-height c =
    omega (arith, few_words c.args.width c.args.height (size_is c.args.width c.args.height (sym c.is_size.ensures ∙ c.if-not-is_size.false)))

pub returns : goal.returns
unfolding tiles_fault tiles_over
returns c = passes _ _ _ _ (sym c.is_size.ensures ∙ c.if-not-is_size.false) c.lent_fault.ensures
