-- Each turn keeps it, and at the end it is what is promised.
use Rattle.std.specs.Prelude.{refl}
use Rattle.std.proofs.Common.{◌∙◌, arith}
use Rattle.std.proofs.lemmas.List.{length-map, map-set}
use Rattle.tile_back.specs.laws.Word.{made_none, made_next, made_all}
use Rattle.tile_back.proofs.words_row.Goals as goal

pub loop-x-init : goal.loop-x-init
loop-x-init g c = made_none _ _ _ _ _ _ _ (length-map _ _ ∙ c.requires.1) refl

pub loop-x-preserved : goal.loop-x-preserved
loop-x-preserved g c = rw map-set (made_next _ _ _ _ _ _ _ _ c.loop-x-test.true c.loop-x.invariant c.pixel.ensures)

pub returns : goal.returns
returns g c = made_all _ _ _ _ _ _ _ (omega arith) c.loop-x.invariant
