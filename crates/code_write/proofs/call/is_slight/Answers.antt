-- The two parts, as `is_slight` has them.
use mathlib.Core.Path.{refl, sym, ap₂, ◌∙◌}
use mathlib.Core.Bool.{Bool, ◌&&◌}
use native.Mathlib.Omega.{arith}
use lib.ListN.{length-take}
use Rattle.whole.specs.laws.Row.{and_no}
use Rattle.code_write.specs.laws.Span.{is_slight}
use Rattle.code_write.proofs.call.is_slight.Goals as goal

pub slice_bounds-within-end : goal.slice_bounds-within-end
slice_bounds-within-end c = omega (arith, length-take 4032 c.args.list.now, c.requires)

pub returns-then-within : goal.returns-then-within
unfolding is_slight
returns-then-within c =
    c.within-then-within.ensures ∙ ap₂ (λ (a b : Bool). a && b) (sym c.if-within.true ∙ c.within.ensures) refl

pub returns-else-within : goal.returns-else-within
unfolding is_slight
returns-else-within c = c.if-within.false ∙ sym (and_no _ _ (sym c.within.ensures ∙ c.if-within.false))
