-- Each turn keeps it, and at the end it is what is promised.
use mathlib.Core.Path.{refl, sym, ◌∙◌}
use native.Mathlib.Omega.{arith}
use Rattle.collect.specs.laws.Walk.{goes_on_from, stops_at, walk_end}
use Rattle.collect.proofs.walk_bytes.Goals as goal

pub loop-at-init : goal.loop-at-init
loop-at-init c = ((omega arith, refl), (c.requires, refl))

pub turn_at-t-requires : goal.turn_at-t-requires
turn_at-t-requires c = (c.loop-at.invariant.1.0, c.loop-at-test.true)

pub loop-at-smaller : goal.loop-at-smaller
loop-at-smaller c = let t = c.turn_at-t.ensures in omega (arith, t.more, t.within)

pub loop-at-preserved : goal.loop-at-preserved
loop-at-preserved c =
    let t = c.turn_at-t.ensures in
    let e = sym c.goes_on.ensures ∙ c.if-not-goes_on.false in
    ((t.within, omega arith), (t.goes e, c.loop-at.invariant.1.1 ∙ t.same ∙ goes_on_from _ _ e))

pub returns-then-not-goes_on : goal.returns-then-not-goes_on
returns-then-not-goes_on c =
    let t = c.turn_at-t.ensures in
    let e = sym c.goes_on.ensures ∙ c.if-not-goes_on.true in
    sym (c.loop-at.invariant.1.1 ∙ t.same ∙ stops_at _ _ e)

pub shape_of-store : goal.shape_of-store
shape_of-store c = c.loop-at.invariant.0.1

pub returns : goal.returns
returns c = sym (c.loop-at.invariant.1.1 ∙ walk_end _ _ _ c.loop-at-test.false)
