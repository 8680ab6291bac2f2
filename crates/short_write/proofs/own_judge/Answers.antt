-- The frame writer's own fault of the arguments, and where there is none that of the old picture's length.
use mathlib.Core.Path.{refl, sym, ◌∙◌}
use Rattle.whole.specs.laws.Row.{passes, fails, stops, goes_on}
use Rattle.wire.specs.laws.Refusal.{number_pos, number_on}
use Rattle.short_write.specs.Short.{own_fault}
use Rattle.short_write.specs.laws.Short.{own_size}
use Rattle.short_write.proofs.own_judge.Goals as goal

pub returns-in_err-arg_judge : goal.returns-in_err-arg_judge
unfolding own_fault
returns-in_err-arg_judge c =
    let e = c.in_err-arg_judge.ensures in
    number_on _ _ c.from_residual.ensures.1 ∙ stops _ _ _ (λ z. number_pos _ (e ∙ z)) e

pub is_pixels-requires : goal.is_pixels-requires
is_pixels-requires c =
    let a = c.args in
    let j = c.args.job in
    own_size j.width j.height j.mode j.quants a.new a.list a.scratch c.in_ok-arg_judge.ensures

pub returns-then-not-is_pixels : goal.returns-then-not-is_pixels
unfolding own_fault
returns-then-not-is_pixels c =
    goes_on _ _ _ (sym c.in_ok-arg_judge.ensures) (fails _ _ _ _ (sym c.is_pixels.ensures ∙ c.if-not-is_pixels.true) refl)

pub returns : goal.returns
unfolding own_fault
returns c = goes_on _ _ _ (sym c.in_ok-arg_judge.ensures) (passes _ _ _ _ (sym c.is_pixels.ensures ∙ c.if-not-is_pixels.false) refl)
