-- Each turn keeps it, and at the end it is what is promised.
use mathlib.Core.Path.{◌≡◌, ap, sym, ◌∙◌}
use native.Mathlib.Omega.{arith}
use lib.ListN.{length}
use Rattle.plan.specs.Plan.{those, changed_tile, changed}
use Rattle.plan.specs.laws.Changed.{count_none, count_yes, count_no, those_few}
use Rattle.plan.proofs.make.count_changed.Goals as goal
use Rattle.plan.proofs.make.count_changed.Goals.{else-is_changed, then-is_changed}

pub loop-k-init : goal.loop-k-init
loop-k-init c = (omega arith, count_none _)

pub overflow_add-count : goal.overflow_add-count
overflow_add-count c =
    let s = c.args in
    let l = c.loop-k in
    let tiles-no = c.tiles_no-n in
    omega (arith, l.invariant.1, tiles-no.ensures.1, those_few (changed_tile s.old.now s.new.now s.w s.h) l.k)

pub loop-k-preserved : goal.loop-k-preserved
loop-k-preserved c =
    let s = c.args in
    let l = c.loop-k in
    let p = changed_tile s.old.now s.new.now s.w s.h in (
      omega arith,
      elim c.if-is_changed.branch [
        | then-is_changed v ↦ v.count-is ∙ count_yes p l.k _ l.invariant.1 (sym c.is_changed.ensures ∙ v.if-is_changed.true)
        | else-is_changed v ↦ v.count-is ∙ count_no p l.k _ l.invariant.1 (sym c.is_changed.ensures ∙ v.if-is_changed.false)
      ],
    )

pub returns : goal.returns
unfolding changed
returns c =
    let s = c.args in
    let l = c.loop-k in
    let e : l.k ≡ c.tiles_no-n.result = omega arith in
    l.invariant.1 ∙ ap (λ k. length (those (changed_tile s.old.now s.new.now s.w s.h) k)) (e ∙ c.tiles_no-n.ensures.0)
