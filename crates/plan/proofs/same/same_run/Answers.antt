-- Each turn keeps it, and at the end it is what is promised.
use mathlib.Core.Path.{◌≡◌, ap, ◌∙◌}
use native.Mathlib.Omega.{arith}
use Rattle.plan.specs.Runs.{same_run}
use Rattle.plan.specs.laws.Same.{run_none, run_next, run_broken}
use Rattle.plan.proofs.same.same_run.Goals as goal
use Rattle.plan.proofs.same.same_run.Goals.{else-a-at, then-a-at}

pub loop-i-init : goal.loop-i-init
loop-i-init c = (omega arith, run_none _ _ _)

pub overflow_add-at : goal.overflow_add-at
overflow_add-at c = omega arith

pub bounds-a-at : goal.bounds-a-at
bounds-a-at c = omega arith

pub overflow_add-at-in-loop-i : goal.overflow_add-at-in-loop-i
overflow_add-at-in-loop-i c = omega arith

pub bounds-b-at : goal.bounds-b-at
bounds-b-at c = omega arith

pub loop-i-preserved : goal.loop-i-preserved
loop-i-preserved c =
    let l = c.loop-i in (
      omega arith,
      elim c.if-a-at.branch [
        | then-a-at v ↦ v.same-is ∙ run_broken _ _ _ l.i v.if-a-at.true
        | else-a-at v ↦ v.same-is ∙ run_next _ _ _ l.i _ l.invariant.1
            v.if-a-at.false
      ],
    )

pub returns : goal.returns
returns c =
    let s = c.args in
    let l = c.loop-i in
    let e : l.i ≡ s.n = omega arith in
    l.invariant.1 ∙ ap (same_run s.a.now s.b.now s.at) e
