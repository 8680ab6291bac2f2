-- `pixels` meets its contract. The loop keeps the words made so far (`Making`). Assumes nothing.
use Rattle.std.specs.Prelude.{refl}
use Rattle.std.proofs.Common.{◌∙◌, arith}
use Rattle.std.proofs.lemmas.List.{length-map, map-set}
use Rattle.plain.specs.laws.Making.{making_none, making_next, making_all}
use Rattle.plain.proofs.pixels.Goals as goal

pub loop-i-init : goal.loop-i-init
loop-i-init g c = making_none _ _ _ _ _ _ (length-map _ _ ∙ c.requires.0) refl

pub loop-i-preserved : goal.loop-i-preserved
loop-i-preserved g c = rw map-set (making_next _ _ _ _ _ _ _ c.loop-i-test.true c.loop-i.invariant c.pixel.ensures)

pub returns : goal.returns
returns g c = making_all _ _ _ _ _ _ (omega arith) c.loop-i.invariant
