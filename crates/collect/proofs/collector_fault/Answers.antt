-- `collect::collector_fault` meets its contract: each return is a row of `collector_fault`; the refusal that a record keeps is that of its head.
use mathlib.Core.Path.{refl, sym, ◌∙◌}
use borrow.Author.Tests.{le-leb, lt-leb}
use Rattle.wire.specs.laws.Refusal.{number_on, number_pos}
use Rattle.whole.specs.laws.Row.{passes, fails, stops, goes_on}
use Rattle.collect.specs.Collect.{collector_fault}
use Rattle.collect.specs.laws.Made.{kept_refusal}
use Rattle.collect.proofs.collector_fault.Goals as goal

pub returns-then-not-is_made : goal.returns-then-not-is_made
unfolding collector_fault
returns-then-not-is_made c = fails _ _ _ _ (sym c.if-not-is_made.ensures) refl

pub returns-in_err-refusal_of : goal.returns-in_err-refusal_of
unfolding collector_fault
returns-in_err-refusal_of c =
    let e = number_on _ _ c.from_residual.ensures.1 ∙ c.in_err-refusal_of.ensures in
    let k = kept_refusal c.args.c c.if-not-is_made.ensures in
    passes _ _ _ _ (sym c.if-not-is_made.ensures) (stops _ _ _ (λ z. number_pos _ (c.in_err-refusal_of.ensures ∙ sym k ∙ z)) (e ∙ sym k))

pub returns-then-room-c : goal.returns-then-room-c
unfolding collector_fault
returns-then-room-c c =
    let k = kept_refusal c.args.c c.if-not-is_made.ensures in
    passes _ _ _ _ (sym c.if-not-is_made.ensures) (goes_on _ _ _ (k ∙ sym c.in_ok-refusal_of.ensures)
    (fails _ _ _ _ (lt-leb c.args.c.held c.args.room c.if-room-c.true) refl))

pub returns-then-room-c-2 : goal.returns-then-room-c-2
unfolding collector_fault
returns-then-room-c-2 c =
    let k = kept_refusal c.args.c c.if-not-is_made.ensures in
    passes _ _ _ _ (sym c.if-not-is_made.ensures) (goes_on _ _ _ (k ∙ sym c.in_ok-refusal_of.ensures)
    (passes _ _ _ _ (le-leb c.args.c.held c.args.room c.if-room-c.false) (fails _ _ _ _ (lt-leb c.args.c.end c.args.room c.if-room-c-2.true) refl)))

pub returns : goal.returns
unfolding collector_fault
returns c =
    let k = kept_refusal c.args.c c.if-not-is_made.ensures in
    passes _ _ _ _ (sym c.if-not-is_made.ensures) (goes_on _ _ _ (k ∙ sym c.in_ok-refusal_of.ensures)
    (passes _ _ _ _ (le-leb c.args.c.held c.args.room c.if-room-c.false) (passes _ _ _ _ (le-leb c.args.c.end c.args.room c.if-room-c-2.false) refl)))
