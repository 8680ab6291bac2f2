-- `body_judge` meets its contract: each return is read off the row of `body_judge`.
use Rattle.whole.specs.laws.Row.{rows, passes}
use Rattle.frame_layout.specs.Reader.{body_judge}
use Rattle.frame_blocks.specs.Tiles.{place_judge}
use Rattle.frame_blocks.proofs.tile.body_judge.Goals as goal

pub returns-then-size-ly : goal.returns-then-size-ly
unfolding body_judge
returns-then-size-ly c = search rows depth 14 fits 20000

pub returns-then-q-qy : goal.returns-then-q-qy
unfolding body_judge
returns-then-q-qy c = search rows depth 14 fits 20000

pub returns-then-q-qcb : goal.returns-then-q-qcb
unfolding body_judge
returns-then-q-qcb c = search rows depth 14 fits 20000

pub returns-then-q-qcr : goal.returns-then-q-qcr
unfolding body_judge
returns-then-q-qcr c = search rows depth 14 fits 20000

pub returns : goal.returns
unfolding body_judge place_judge
returns c =
    passes _ _ _ _ (search rows) (passes _ _ _ _ (search rows) (passes _ _ _ _ (search rows) (passes _ _ _ _ (search rows) c.place_judge.ensures)))
