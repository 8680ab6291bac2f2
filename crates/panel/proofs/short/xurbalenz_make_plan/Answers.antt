-- `xurbalenz_make_plan` meets its contract: the number and the count are those of the planner's answer.
use Rattle.std.proofs.Common.{◌∙◌}
use Rattle.panel.proofs.short.xurbalenz_make_plan.Goals as goal

pub returns : goal.returns
returns c =
    let made = c.make_plan-p.ensures in
    record { said = c.number_of.ensures ∙ made.number; count_is = c.count_of.ensures ∙ made.said; left = made.left }
