-- `caps::read::read_block` meets its contract: along the layout, step by step, to the one that is refused or to its end.
-- Assumes nothing.
use mathlib.Core.Path.{◌∙◌}
use Rattle.caps.specs.Caps.{block}
use Rattle.caps.specs.laws.Step.{fixed_on, fixed_off, passed_on, goes_on}
use Rattle.caps.proofs.read.read_block.Goals as goal

pub returns-in_err-fixed : goal.returns-in_err-fixed
unfolding block
returns-in_err-fixed c = passed_on _ _ _ _ _ c.from_residual.ensures (fixed_off _ c.in_err-fixed.ensures)

pub returns-in_err-fixed-2 : goal.returns-in_err-fixed-2
unfolding block
returns-in_err-fixed-2 c =
    passed_on _ _ _ _ _ c.from_residual-in_err-fixed-2.ensures (fixed_on 5 _ c.in_ok-fixed.ensures ∙ fixed_off _ c.in_err-fixed-2.ensures)

pub returns-in_err-fixed-3 : goal.returns-in_err-fixed-3
unfolding block
returns-in_err-fixed-3 c =
    passed_on _ _ _ _ _ c.from_residual-in_err-fixed-3.ensures (fixed_on 5 _ c.in_ok-fixed.ensures ∙ fixed_on 4 _ c.in_ok-fixed-2.ensures
    ∙ fixed_off _ c.in_err-fixed-3.ensures)

pub returns : goal.returns
unfolding block
returns c =
    goes_on _ _ _ _ _ _ (fixed_on 5 _ c.in_ok-fixed.ensures ∙ fixed_on 4 _ c.in_ok-fixed-2.ensures
    ∙ fixed_on 5 _ c.in_ok-fixed-3.ensures) c.read_capset.ensures
