-- `colour::cb` meets its contract: 01's sum is `weigh`'s (`cb_is`).
-- Assumes nothing.
use mathlib.Core.Path.{◌∙◌}
use mir.Syntax.{w32}
use Rattle.whole.specs.laws.Near.{back_ok}
use Rattle.colour.specs.laws.Step.{cb_is}
use Rattle.colour.proofs.cb.Goals as goal

pub returns : goal.returns
returns c = let a = c.args in back_ok w32 c.weigh.result c.weigh.type_inv ∙ c.weigh.ensures ∙ cb_is a.r a.g a.b
