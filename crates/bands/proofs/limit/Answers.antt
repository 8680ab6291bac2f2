-- `bands::limit` meets its contract: a shift to the right is the division that `limit_of` has. Assumes nothing.
use mathlib.Core.Path.{refl}
use Rattle.bands.specs.laws.Steps.{limit_of}
use Rattle.bands.proofs.limit.Goals as goal

pub returns : goal.returns
unfolding limit_of
returns c = refl
