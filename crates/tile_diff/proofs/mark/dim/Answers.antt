-- `tile_diff::mark::dim` meets its contract.
use mathlib.Core.Path.{refl}
use Rattle.tile_diff.specs.Mark.{dimmed}
use Rattle.tile_diff.proofs.mark.dim.Goals as goal

pub returns : goal.returns
unfolding dimmed
returns c = refl
