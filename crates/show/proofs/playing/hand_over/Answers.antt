-- The collector takes the bytes, and its part goes to its call: `given_is`.
use Rattle.std.proofs.Common.{refl}
use Rattle.show.specs.laws.Play.{given_is}
use Rattle.show.proofs.playing.hand_over.Goals as goal

pub returns : goal.returns
returns c =
    (given_is _ _ _ _ _ _ _ _ c.collect-k.ensures c.advance.ensures c.part.ensures c.settle-e.ensures, refl)
