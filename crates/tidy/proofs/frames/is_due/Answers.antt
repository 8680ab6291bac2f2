-- Each answer is a row of `is_due`; a record that is ready is right, as the check of the message asks.
use mathlib.Core.Path.{refl, ap, sym, ◌∙◌}
use lib.Dec.{eqb}
use Rattle.whole.specs.laws.Row.{passes, fails, case_yes, case_no}
use Rattle.session.specs.laws.Header.{ready_good}
use Rattle.tidy.specs.Tidy.{fault_for}
use Rattle.tidy.specs.Put.{is_due}
use Rattle.tidy.specs.laws.Headers.{judged_ok}
use Rattle.tidy.proofs.frames.is_due.Goals as goal

pub returns-then-not-is_ready : goal.returns-then-not-is_ready
unfolding is_due
returns-then-not-is_ready c = fails _ _ _ _ (sym c.if-not-is_ready.ensures) refl

pub message_fault-requires : goal.message_fault-requires
message_fault-requires c = ((ready_good c.args.s (sym c.if-not-is_ready.ensures)).right, c.requires)

pub returns-then-is_ok : goal.returns-then-is_ok
unfolding is_due fault_for
returns-then-is_ok c =
    let k = ap (λ k. eqb k 0) (sym c.message_fault.ensures) ∙ (sym (judged_ok _) ∙ (sym c.is_ok.ensures.value ∙ c.if-is_ok.true)) in
    passes _ _ _ _ (sym c.if-not-is_ready.ensures) (case_yes _ _ _ _ k refl)

pub layout_fault-requires : goal.layout_fault-requires
layout_fault-requires c = (ready_good c.args.s (sym c.if-not-is_ready.ensures)).right

pub returns : goal.returns
unfolding is_due fault_for
returns c =
    let k = ap (λ k. eqb k 0) (sym c.message_fault.ensures) ∙ (sym (judged_ok _) ∙ (sym c.is_ok.ensures.value ∙ c.if-is_ok.false)) in
    passes _ _ _ _ (sym c.if-not-is_ready.ensures)
    (case_no _ _ _ _ k (c.is_ok-2.ensures.value ∙ (judged_ok _ ∙ ap (λ k. eqb k 0) c.layout_fault.ensures)))
