-- `caps::read::read_entry` meets its contract: along the layout, step by step, to the one that is refused or to its end.
-- Assumes nothing.
use mathlib.Core.Path.{sym, ◌∙◌}
use Rattle.wire.specs.Mode.{is_mode}
use Rattle.caps.specs.Caps.{entry}
use Rattle.caps.specs.laws.Walk.{row_back, gives_back}
use Rattle.caps.specs.laws.Step.{next_on, next_off, row_stops, fixed_on, fixed_off, passed_on}
use Rattle.caps.proofs.read.read_entry.Goals as goal

pub returns-in_err-fixed : goal.returns-in_err-fixed
unfolding entry
returns-in_err-fixed c = passed_on _ _ _ _ _ c.from_residual.ensures (fixed_off _ c.in_err-fixed.ensures)

pub returns-in_err-fixed-2 : goal.returns-in_err-fixed-2
unfolding entry
returns-in_err-fixed-2 c =
    passed_on _ _ _ _ _ c.from_residual-in_err-fixed-2.ensures (fixed_on 5 _ c.in_ok-fixed.ensures ∙ fixed_off _ c.in_err-fixed-2.ensures)

pub returns-in_err-flags : goal.returns-in_err-flags
unfolding entry
returns-in_err-flags c =
    passed_on _ _ _ _ _ c.from_residual-in_err-flags.ensures (fixed_on 5 _ c.in_ok-fixed.ensures ∙ fixed_on 5 _ c.in_ok-fixed-2.ensures
    ∙ next_off _ c.in_err-flags.ensures)

pub returns-in_err-fixed-3 : goal.returns-in_err-fixed-3
unfolding entry
returns-in_err-fixed-3 c =
    passed_on _ _ _ _ _ c.from_residual-in_err-fixed-3.ensures (fixed_on 5 _ c.in_ok-fixed.ensures ∙ fixed_on 5 _ c.in_ok-fixed-2.ensures
    ∙ next_on _ c.in_ok-flags.ensures ∙ fixed_off _ c.in_err-fixed-3.ensures)

pub returns-in_err-fixed-4 : goal.returns-in_err-fixed-4
unfolding entry
returns-in_err-fixed-4 c =
    passed_on _ _ _ _ _ c.from_residual-in_err-fixed-4.ensures (fixed_on 5 _ c.in_ok-fixed.ensures ∙ fixed_on 5 _ c.in_ok-fixed-2.ensures
    ∙ next_on _ c.in_ok-flags.ensures ∙ fixed_on 5 _ c.in_ok-fixed-3.ensures ∙ fixed_off _ c.in_err-fixed-4.ensures)

pub returns-in_err-mode : goal.returns-in_err-mode
unfolding entry
returns-in_err-mode c =
    passed_on _ _ _ _ _ c.from_residual-in_err-mode.ensures (fixed_on 5 _ c.in_ok-fixed.ensures ∙ fixed_on 5 _ c.in_ok-fixed-2.ensures
    ∙ next_on _ c.in_ok-flags.ensures ∙ fixed_on 5 _ c.in_ok-fixed-3.ensures ∙ fixed_on 5 _ c.in_ok-fixed-4.ensures
    ∙ next_off _ c.in_err-mode.ensures)

pub returns-then-not-is_mode : goal.returns-then-not-is_mode
unfolding entry
returns-then-not-is_mode c =
    fixed_on 5 _ c.in_ok-fixed.ensures ∙ fixed_on 5 _ c.in_ok-fixed-2.ensures ∙ next_on _ c.in_ok-flags.ensures ∙ fixed_on 5 _ c.in_ok-fixed-3.ensures
    ∙ fixed_on 5 _ c.in_ok-fixed-4.ensures ∙ next_on _ c.in_ok-mode.ensures ∙ row_stops (is_mode _) 5 _ _ (sym c.if-not-is_mode.ensures)

pub returns : goal.returns
unfolding entry
returns c =
    fixed_on 5 _ c.in_ok-fixed.ensures ∙ fixed_on 5 _ c.in_ok-fixed-2.ensures ∙ next_on _ c.in_ok-flags.ensures ∙ fixed_on 5 _ c.in_ok-fixed-3.ensures
    ∙ fixed_on 5 _ c.in_ok-fixed-4.ensures ∙ next_on _ c.in_ok-mode.ensures ∙ row_back (is_mode _) 5 _ _ (sym c.if-not-is_mode.ensures)
    ∙ gives_back _ _
