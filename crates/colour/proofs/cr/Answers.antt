-- `colour::cr` meets its contract: 01's sum is `weigh`'s (`cr_is`).
-- Assumes nothing.
use mathlib.Core.Path.{◌∙◌}
use mir.Syntax.{w32}
use Rattle.whole.specs.laws.Near.{back_ok}
use Rattle.colour.specs.laws.Step.{cr_is}
use Rattle.colour.proofs.cr.Goals as goal

pub returns : goal.returns
returns c = let a = c.args in back_ok w32 c.weigh.result c.weigh.type_inv ∙ c.weigh.ensures ∙ cr_is a.r a.g a.b
