-- `caps::read::read_ack_cap_fields` meets its contract: along the layout, step by step, to the one that is refused or to its end.
-- Assumes nothing.
use mathlib.Core.Path.{◌∙◌}
use Rattle.caps.specs.AckCap.{ack_cap}
use Rattle.caps.specs.laws.Walk.{gives_back}
use Rattle.caps.specs.laws.Step.{next_on, next_off, fixed_on, fixed_off, passed_on}
use Rattle.caps.proofs.read.read_ack_cap_fields.Goals as goal

pub returns-in_err-fixed : goal.returns-in_err-fixed
unfolding ack_cap
returns-in_err-fixed c = passed_on _ _ _ _ _ c.from_residual.ensures (fixed_off _ c.in_err-fixed.ensures)

pub returns-in_err-fixed-2 : goal.returns-in_err-fixed-2
unfolding ack_cap
returns-in_err-fixed-2 c =
    passed_on _ _ _ _ _ c.from_residual-in_err-fixed-2.ensures (fixed_on 5 _ c.in_ok-fixed.ensures ∙ fixed_off _ c.in_err-fixed-2.ensures)

pub returns-in_err-count : goal.returns-in_err-count
unfolding ack_cap
returns-in_err-count c =
    passed_on _ _ _ _ _ c.from_residual-in_err-count.ensures (fixed_on 5 _ c.in_ok-fixed.ensures ∙ fixed_on 4 _ c.in_ok-fixed-2.ensures
    ∙ next_off _ c.in_err-count.ensures)

pub returns : goal.returns
unfolding ack_cap
returns c = fixed_on 5 _ c.in_ok-fixed.ensures ∙ fixed_on 4 _ c.in_ok-fixed-2.ensures ∙ next_on _ c.in_ok-count.ensures ∙ gives_back _ _
