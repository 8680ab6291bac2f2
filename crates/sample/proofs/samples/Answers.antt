-- `sample::samples` meets its contract: the lists and the set were judged before, and the component before it is decoded.
use mathlib.Core.Path.{sym, ◌∙◌}
use Rattle.bands.specs.Bands.{QuantGood}
use Rattle.bands.specs.laws.Band.{good_set}
use Rattle.sample.proofs.samples.Goals as goal
use Rattle.sample.proofs.samples.Goals.{Else-not-is_good}

-- the set is good where the test was passed
set : (e : Else-not-is_good) → QuantGood e.args.q.v
set e = good_set _ (sym e.is_good.ensures ∙ e.if-not-is_good.false)

pub component_fault-requires : goal.component_fault-requires
component_fault-requires c = (c.if-work-ne4096.false, set (goal.at.component_fault-requires c).Else-not-is_good)

pub samples-requires : goal.samples-requires
samples-requires c = (
  c.component_fault.auto.work ∙ c.if-work-ne4096.false,
  c.if-tmp-ne4096.false,
  set (goal.at.samples-requires c).Else-not-is_good,
  sym c.if-n-ne0.false ∙ (c.number_of-n.ensures ∙ c.component_fault.ensures.number),
)
