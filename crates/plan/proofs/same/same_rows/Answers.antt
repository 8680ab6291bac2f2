-- Each turn keeps it, and at the end it is what is promised.
use mathlib.Core.Path.{sym, ◌∙◌}
use native.Mathlib.Omega.{arith}
use Rattle.plan.specs.Runs.{same_rows}
use Rattle.plan.specs.laws.All.{all_none, all_more, all_fails, all_fewer}
use Rattle.plan.specs.laws.Same.{joined, joined_in}
use Rattle.plan.proofs.same.same_rows.Goals as goal

pub overflow_mul-rows : goal.overflow_mul-rows
overflow_mul-rows c =
    let s = c.args in
    omega (arith, joined_in s.a.now s.at s.step s.n s.rows c.if-n-step.true c.requires.0)

pub same_run-requires : goal.same_run-requires
same_run-requires c =
    let s = c.args in
    let pre = c.requires in (
      joined_in s.a.now s.at s.step s.n s.rows c.if-n-step.true pre.0,
      joined_in s.b.now s.at s.step s.n s.rows c.if-n-step.true pre.1,
    )

pub returns-then-n-step : goal.returns-then-n-step
returns-then-n-step c =
    let s = c.args in
    c.same_run.ensures ∙ joined s.a.now s.b.now s.at s.n s.rows s.step c.if-n-step.true

pub loop-r-init : goal.loop-r-init
loop-r-init c = (omega arith, all_none _)

pub overflow_mul-r : goal.overflow_mul-r
overflow_mul-r c =
    let pre = c.requires in
    omega (arith, pre.0.row c.loop-r.r c.loop-r-test.true)

pub overflow_add-at : goal.overflow_add-at
overflow_add-at c =
    let pre = c.requires in
    omega (arith, pre.0.row c.loop-r.r c.loop-r-test.true)

pub same_run-requires-in-loop-r : goal.same_run-requires-in-loop-r
same_run-requires-in-loop-r c =
    let pre = c.requires in
    let l = c.loop-r in
    (pre.0.row l.r c.loop-r-test.true, pre.1.row l.r c.loop-r-test.true)

pub returns-then-not-same_run : goal.returns-then-not-same_run
unfolding same_rows
returns-then-not-same_run c =
    let l = c.loop-r in
    let same-run2 = c.same_run-in-loop-r in
    all_fails _ _ l.r c.loop-r-test.true (sym same-run2.ensures ∙ c.if-not-same_run.true)

pub loop-r-preserved : goal.loop-r-preserved
loop-r-preserved c =
    let l = c.loop-r in
    let same-run2 = c.same_run-in-loop-r in
    (omega arith, all_more _ l.r l.invariant.1 (sym same-run2.ensures ∙ c.if-not-same_run.false))

pub returns : goal.returns
unfolding same_rows
returns c =
    let l = c.loop-r in
    all_fewer _ _ l.r (omega arith) l.invariant.1
