-- `step` meets its contract: field by field.
use mathlib.Core.Path.{refl}
use Rattle.session.specs.Header.{stepped}
use Rattle.session.proofs.step.Goals as goal

pub returns : goal.returns
unfolding stepped
returns c = refl
