-- Anew behind a foreign block, else as it is.
use Rattle.show.specs.laws.Play.{settle_anew, settle_same}
use Rattle.show.proofs.playing.settle.Goals as goal

pub returns-then-foreign : goal.returns-then-foreign
returns-then-foreign c =
    settle_anew _ _ _ c.renewed.ensures c.foreign.ensures c.if-foreign.true

pub returns : goal.returns
returns c = settle_same _ _ c.foreign.ensures c.if-foreign.false
