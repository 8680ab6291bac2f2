-- The definition itself.
use Rattle.std.proofs.Common.{refl}
use Rattle.show.specs.Play.{placed}
use Rattle.show.proofs.playing.at_place.Goals as goal

pub returns : goal.returns
unfolding placed
returns c = refl
