-- `caps::read::read_container` meets its contract: along the layout, step by step, to the one that is refused or to its end.
-- Assumes nothing.
use mathlib.Core.Path.{◌∙◌}
use Rattle.std.proofs.Common.{eq-eqb, ne_eqb, eqb, ◌+◌}
use Rattle.caps.specs.Caps.{container}
use Rattle.caps.specs.laws.Walk.{row_back, gives_back}
use Rattle.caps.specs.laws.Step.{next_on, next_off, row_stops, then_on, stops_then, passed_on}
use Rattle.caps.proofs.read.read_container.Goals as goal

pub returns-in_err-length : goal.returns-in_err-length
unfolding container
returns-in_err-length c = passed_on _ _ _ _ _ c.from_residual.ensures (next_off _ c.in_err-length.ensures)

pub returns-in_err-flags : goal.returns-in_err-flags
unfolding container
returns-in_err-flags c = passed_on _ _ _ _ _ c.from_residual-in_err-flags.ensures (next_on _ c.in_ok-length.ensures ∙ next_off _ c.in_err-flags.ensures)

pub returns-in_err-inner : goal.returns-in_err-inner
unfolding container
returns-in_err-inner c =
    passed_on _ _ _ _ _ c.from_residual-in_err-inner.ensures (next_on _ c.in_ok-length.ensures ∙ next_on _ c.in_ok-flags.ensures
    ∙ next_off _ c.in_err-inner.ensures)

pub returns-then-length-inner : goal.returns-then-length-inner
unfolding container
returns-then-length-inner c =
    next_on _ c.in_ok-length.ensures ∙ next_on _ c.in_ok-flags.ensures ∙ next_on _ c.in_ok-inner.ensures
    ∙ row_stops (eqb c.in_ok-length.length (12 + c.in_ok-inner.inner)) 4 _ _ (ne_eqb _ _ c.if-length-inner.true)

pub returns-in_err-listed : goal.returns-in_err-listed
unfolding container
returns-in_err-listed c =
    passed_on _ _ _ _ _ c.from_residual-in_err-listed.ensures (next_on _ c.in_ok-length.ensures ∙ next_on _ c.in_ok-flags.ensures
    ∙ next_on _ c.in_ok-inner.ensures ∙ row_back (eqb c.in_ok-length.length (12 + c.in_ok-inner.inner)) 4 _ _ (eq-eqb _ _ c.if-length-inner.false)
    ∙ stops_then _ _ _ _ c.in_err-listed.ensures)

pub returns : goal.returns
unfolding container
returns c =
    next_on _ c.in_ok-length.ensures ∙ next_on _ c.in_ok-flags.ensures ∙ next_on _ c.in_ok-inner.ensures
    ∙ row_back (eqb c.in_ok-length.length (12 + c.in_ok-inner.inner)) 4 _ _ (eq-eqb _ _ c.if-length-inner.false)
    ∙ then_on _ _ _ c.in_ok-listed.ensures ∙ gives_back _ _
