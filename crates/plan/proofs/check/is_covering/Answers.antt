-- Each turn keeps it, and at the end it is what is promised.
use mathlib.Core.Path.{sym, ◌∙◌}
use native.Mathlib.Omega.{arith}
use Rattle.plan.specs.laws.Lists.{rising_is}
use Rattle.plan.specs.laws.Cover.{cover_none, cover_on, cover_past, cover_fails, cover_done}
use Rattle.plan.proofs.check.is_covering.Goals as goal
use Rattle.plan.proofs.check.is_covering.Goals.{else-is_at+else-is_changed, then-is_at}

pub loop-k-init : goal.loop-k-init
loop-k-init c = (omega arith, cover_none _ _ _ _ _)

pub overflow_add-finger : goal.overflow_add-finger
overflow_add-finger c = omega (arith, c.loop-k.invariant.1.finger.within)

pub returns-then-is_changed : goal.returns-then-is_changed
returns-then-is_changed c =
    let l = c.loop-k in
    let s = c.args in
    let pre = c.requires in
    let tiles-no = c.tiles_no-n in
    let is_at = c.is_at in
    let if1 = c.if-is_at in
    let is-changed = c.is_changed in
    let r = rising_is s.picks.now pre.1 in
    cover_fails _ _ _ _ _ r l.finger l.k l.invariant.1 (omega (arith, tiles-no.ensures.0)) (sym is_at.ensures ∙ if1.false)
    (sym is-changed.ensures ∙ c.if-is_changed.true)

pub loop-k-preserved : goal.loop-k-preserved
loop-k-preserved c =
    let l = c.loop-k in
    let s = c.args in
    let pre = c.requires in
    let is_at = c.is_at in
    let r = rising_is s.picks.now pre.1 in
    let a = sym is_at.ensures in (
      omega arith,
      elim c.if-is_at.branch [
        | then-is_at v ↦ rw v.finger-is (cover_on _ _ _ _ _ r l.finger l.k l.invariant.1 (a ∙ v.if-is_at.true))
        | else-is_at+else-is_changed v ↦ rw v.finger-is (cover_past _ _ _ _ _ r l.finger l.k l.invariant.1 (a ∙ v.if-is_at.false)
            (sym v.is_changed.ensures ∙ v.if-is_changed.false))
      ],
    )

pub returns : goal.returns
returns c =
    let l = c.loop-k in
    let tiles-no = c.tiles_no-n in
    cover_done _ _ _ _ _ l.finger l.k l.invariant.1 (omega (arith, tiles-no.ensures.0))
