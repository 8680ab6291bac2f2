-- `pictures_judge` meets its contract: each return is read off the row of `pictures_fault`, the tests by what the calls say.
use mathlib.Core.Path.{refl, sym, ◌∙◌}
use Rattle.whole.specs.laws.Row.{passes, fails}
use Rattle.plan.specs.Plan.{pictures_fault}
use Rattle.plan.specs.laws.Changed.{size_allowed}
use Rattle.plan.proofs.check.pictures_judge.Goals as goal

pub returns-then-not-is_size : goal.returns-then-not-is_size
unfolding pictures_fault
returns-then-not-is_size c = fails _ _ _ _ (sym c.is_size.ensures ∙ c.if-not-is_size.true) refl

pub is_pixels-requires : goal.is_pixels-requires
is_pixels-requires c =
    let a = c.args in
    let s = size_allowed a.w a.h (sym c.is_size.ensures ∙ c.if-not-is_size.false) in
    (s.most_w, s.most_h)

pub returns-then-not-is_pixels : goal.returns-then-not-is_pixels
unfolding pictures_fault
returns-then-not-is_pixels c =
    passes _ _ _ _ (sym c.is_size.ensures ∙ c.if-not-is_size.false)
    (fails _ _ _ _ (sym c.is_pixels.ensures ∙ c.if-not-is_pixels.true) refl)

pub is_pixels-requires-2 : goal.is_pixels-requires-2
is_pixels-requires-2 c =
    let a = c.args in
    let is-size = c.is_size in
    let if1 = c.if-not-is_size in
    let s = size_allowed a.w a.h (sym is-size.ensures ∙ if1.false) in
    (s.most_w, s.most_h)

pub returns-then-not-is_pixels-2 : goal.returns-then-not-is_pixels-2
unfolding pictures_fault
returns-then-not-is_pixels-2 c =
    let is-size = c.is_size in
    let if1 = c.if-not-is_size in
    let is-pixels = c.is_pixels in
    let if2 = c.if-not-is_pixels in
    let is-pixels2 = c.is_pixels-2 in
    passes _ _ _ _ (sym is-size.ensures ∙ if1.false)
    (passes _ _ _ _ (sym is-pixels.ensures ∙ if2.false)
    (fails _ _ _ _ (sym is-pixels2.ensures ∙ c.if-not-is_pixels-2.true) refl))

pub returns : goal.returns
unfolding pictures_fault
returns c =
    let is-size = c.is_size in
    let if1 = c.if-not-is_size in
    let is-pixels = c.is_pixels in
    let if2 = c.if-not-is_pixels in
    let is-pixels2 = c.is_pixels-2 in
    passes _ _ _ _ (sym is-size.ensures ∙ if1.false)
    (passes _ _ _ _ (sym is-pixels.ensures ∙ if2.false)
    (passes _ _ _ _ (sym is-pixels2.ensures ∙ c.if-not-is_pixels-2.false) refl))
