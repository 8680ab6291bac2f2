-- A tidied frame is tried where it is due, and judged as it stands in the output (`front_there`); a law of specs/laws/Pass for each way out.
use mathlib.Core.Path.{sym, ◌∙◌}
use native.Mathlib.Omega.{arith}
use lib.ListN.{length-take}
use Rattle.session.specs.laws.Header.{ready_good}
use Rattle.tidy.specs.Tidy.{fault_for}
use Rattle.tidy.specs.laws.Put.{frame_shorter}
use Rattle.tidy.specs.laws.Pass.{due_not, due_ready, due_laid, tested_yes, tested_no, front_there, pass_kept, pass_back, pass_tidied}
use Rattle.std.proofs.lemmas.Bool.{eqb-true, eqb-false}
use Rattle.tidy.specs.laws.Headers.{judged_ok}
use Rattle.tidy.proofs.frames.pass_frame.Goals as goal

pub put_frame-p-requires : goal.put_frame-p-requires
put_frame-p-requires c =
    let a = c.args in
    (c.is_due.auto.list ∙ c.requires.0, due_laid a.sender a.s a.m.now (sym c.is_due.ensures ∙ c.if-is_due.true), c.requires.1)

pub slice_bounds-message_fault-end : goal.slice_bounds-message_fault-end
slice_bounds-message_fault-end c =
    let a = c.args in
    let l = frame_shorter a.sender a.s.mode a.m.now (due_laid a.sender a.s a.m.now (sym c.is_due.ensures ∙ c.if-is_due.true)) in
    omega (arith, l, c.put_frame-p.ensures.behind, c.put_frame-p.auto.out, c.requires.1)

pub slice_bounds-message_fault-end-then-is_due : goal.slice_bounds-message_fault-end-then-is_due
slice_bounds-message_fault-end-then-is_due c =
    let a = c.args in
    let l = frame_shorter a.sender a.s.mode a.m.now (due_laid a.sender a.s a.m.now (sym c.is_due.ensures ∙ c.if-is_due.true)) in
    simp length-take (omega (arith, l, c.put_frame-p.ensures.behind, c.put_frame-p.auto.out, c.requires.1))

pub message_fault-requires : goal.message_fault-requires
message_fault-requires c =
    let a = c.args in (
      (ready_good a.s (due_ready a.sender a.s a.m.now (sym c.is_due.ensures ∙ c.if-is_due.true))).right,
      c.put_frame-p.auto.list ∙ (c.is_due.auto.list ∙ c.requires.0),
    )

pub shape_of-list-then-is_ok : goal.shape_of-list-then-is_ok
shape_of-list-then-is_ok c =
    c.message_fault.auto.work ∙ (c.put_frame-p.auto.list ∙ c.is_due.auto.list)

pub shape_of-out-then-is_ok : goal.shape_of-out-then-is_ok
shape_of-out-then-is_ok c =
    c.put_frame-p.auto.out

pub returns-then-is_ok : goal.returns-then-is_ok
unfolding fault_for
returns-then-is_ok c =
    let a = c.args in
    let p = c.put_frame-p.ensures in
    let t = tested_yes a.sender a.s a.m.now (sym c.is_due.ensures ∙ c.if-is_due.true) _ _ c.message_fault.ensures
    (front_there _ a.out.now _ c.put_frame-p.result.to p.left p.behind) (eqb-true _ 0 (sym (judged_ok _) ∙ (sym c.is_ok.ensures.value ∙ c.if-is_ok.true))) in
    pass_tidied a.sender a.s a.m.now a.out.now _ _ t p

pub keep-requires : goal.keep-requires
keep-requires c =
    omega (arith, c.requires.1, c.put_frame-p.auto.out)

pub shape_of-list-then-is_due : goal.shape_of-list-then-is_due
shape_of-list-then-is_due c =
    c.message_fault.auto.work ∙ (c.put_frame-p.auto.list ∙ c.is_due.auto.list)

pub shape_of-out-then-is_due : goal.shape_of-out-then-is_due
shape_of-out-then-is_due c =
    c.keep.auto.out ∙ c.put_frame-p.auto.out

pub returns-then-is_due : goal.returns-then-is_due
unfolding fault_for
returns-then-is_due c =
    let a = c.args in
    let p = c.put_frame-p.ensures in
    let t = tested_no a.sender a.s a.m.now (sym c.is_due.ensures ∙ c.if-is_due.true) _ _ c.message_fault.ensures
    (front_there _ a.out.now _ c.put_frame-p.result.to p.left p.behind) (eqb-false _ 0 (sym (judged_ok _) ∙ (sym c.is_ok.ensures.value ∙ c.if-is_ok.false))) in
    let l = frame_shorter a.sender a.s.mode a.m.now (due_laid a.sender a.s a.m.now (sym c.is_due.ensures ∙ c.if-is_due.true)) in
    pass_back a.sender a.s a.m.now a.out.now _ _ _ _ t p.left l c.keep.ensures

pub keep-requires-2 : goal.keep-requires-2
keep-requires-2 c =
    c.requires.1

pub shape_of-list : goal.shape_of-list
shape_of-list c =
    c.is_due.auto.list

pub shape_of-out : goal.shape_of-out
shape_of-out c = c.keep-2.auto.out

pub returns : goal.returns
returns c =
    let a = c.args in
    pass_kept a.sender a.s a.m.now a.out.now _ _ (due_not a.sender a.s a.m.now (sym c.is_due.ensures ∙ c.if-is_due.false))
    c.keep-2.ensures
