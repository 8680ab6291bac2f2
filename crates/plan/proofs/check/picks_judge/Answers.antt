-- `picks_judge` meets its contract: each return is read off the row of `picks_fault`, the tests by what the calls say.
use mathlib.Core.Path.{refl, ap, sym, ◌∙◌}
use Rattle.whole.specs.laws.Row.{passes, fails}
use Rattle.plan.specs.Plan.{below, picks_fault}
use Rattle.plan.proofs.check.picks_judge.Goals as goal

pub returns-then-not-is_rising : goal.returns-then-not-is_rising
unfolding picks_fault
returns-then-not-is_rising c = fails _ _ _ _ (sym c.is_rising.ensures ∙ c.if-not-is_rising.true) refl

pub returns-then-not-is_below : goal.returns-then-not-is_below
unfolding picks_fault
returns-then-not-is_below c =
    let is_below = c.is_below in
    let s = c.args in
    let tiles-no = c.tiles_no in
    let is-rising = c.is_rising in
    let if1 = c.if-not-is_rising in
    let b = is_below.ensures ∙ ap (λ n. below n s.picks.now) tiles-no.ensures.0 in
    passes _ _ _ _ (sym is-rising.ensures ∙ if1.false)
    (fails _ _ _ _ (sym b ∙ c.if-not-is_below.true) refl)

pub is_covering-requires : goal.is_covering-requires
is_covering-requires c =
    let pre = c.requires in
    let is-rising = c.is_rising in
    let if1 = c.if-not-is_rising in
    (pre, sym is-rising.ensures ∙ if1.false)

pub returns-then-not-is_covering : goal.returns-then-not-is_covering
unfolding picks_fault
returns-then-not-is_covering c =
    let is_below = c.is_below in
    let s = c.args in
    let tiles-no = c.tiles_no in
    let is-rising = c.is_rising in
    let if1 = c.if-not-is_rising in
    let if2 = c.if-not-is_below in
    let is-covering = c.is_covering in
    let b = is_below.ensures ∙ ap (λ n. below n s.picks.now) tiles-no.ensures.0 in
    passes _ _ _ _ (sym is-rising.ensures ∙ if1.false)
    (passes _ _ _ _ (sym b ∙ if2.false)
    (fails _ _ _ _ (sym is-covering.ensures ∙ c.if-not-is_covering.true) refl))

pub returns : goal.returns
unfolding picks_fault
returns c =
    let is_below = c.is_below in
    let s = c.args in
    let tiles-no = c.tiles_no in
    let is-rising = c.is_rising in
    let if1 = c.if-not-is_rising in
    let if2 = c.if-not-is_below in
    let is-covering = c.is_covering in
    let b = is_below.ensures ∙ ap (λ n. below n s.picks.now) tiles-no.ensures.0 in
    passes _ _ _ _ (sym is-rising.ensures ∙ if1.false)
    (passes _ _ _ _ (sym b ∙ if2.false)
    (passes _ _ _ _ (sym is-covering.ensures ∙ c.if-not-is_covering.false) refl))
