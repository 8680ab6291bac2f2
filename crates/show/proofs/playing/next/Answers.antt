-- The piece is filled, and what is left of it handed over: `handed_is`.
use Rattle.show.specs.laws.Play.{handed_is}
use Rattle.show.proofs.playing.next.Goals as goal

pub returns : goal.returns
returns c =
    let g = c.hand_over.ensures in
    handed_is _ _ _ _ _ _ _ _ _ _ _ _ c.fill-a.ensures c.first.ensures c.rest-bytes.ensures g.0 g.1
