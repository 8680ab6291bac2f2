-- Each return is one row of `waiting_by`.
use mathlib.Core.Path.{refl, sym, ◌∙◌}
use borrow.Author.Tests.{eq-eqb, ne_eqb}
use Rattle.whole.specs.laws.Row.{passes, fails, case_yes, case_no}
use Rattle.tidy.specs.Headers.{waiting_by}
use Rattle.tidy.specs.laws.Headers.{opened}
use Rattle.tidy.proofs.headers.waiting_by.Goals as goal

pub returns-then-w-eq0 : goal.returns-then-w-eq0
unfolding waiting_by
returns-then-w-eq0 c =
    passes _ _ _ _ (sym c.is_waiting.ensures ∙ c.if-is_waiting.true) (case_yes _ _ _ _ (eq-eqb _ 0 c.if-w-eq0.true) refl)

pub returns-then-w-eq0-2 : goal.returns-then-w-eq0-2
unfolding waiting_by
returns-then-w-eq0-2 c =
    passes _ _ _ _ (sym c.is_waiting.ensures ∙ c.if-is_waiting.true)
    (case_no _ _ _ _ (ne_eqb _ 0 c.if-w-eq0.false) (case_yes _ _ _ _ (eq-eqb _ 0 c.if-w-eq0-2.true) refl))

pub returns-then-is_waiting : goal.returns-then-is_waiting
unfolding waiting_by
returns-then-is_waiting c =
    passes _ _ _ _ (sym c.is_waiting.ensures ∙ c.if-is_waiting.true)
    (case_no _ _ _ _ (ne_eqb _ 0 c.if-w-eq0.false) (case_no _ _ _ _ (ne_eqb _ 0 c.if-w-eq0-2.false) refl))

pub returns : goal.returns
unfolding waiting_by
returns c =
    fails _ _ _ _ (sym c.is_waiting.ensures ∙ c.if-is_waiting.false)
    (opened c.flag.result c.args.sync c.flag.ensures)
