-- `tile_diff::mark::at_edge` meets its contract: each return is a row of `at_edge`.
use Rattle.whole.specs.laws.Row.{rows}
use Rattle.tile_diff.specs.Mark.{at_edge}
use Rattle.tile_diff.proofs.mark.at_edge.Goals as goal

pub returns-then-v-lt2 : goal.returns-then-v-lt2
unfolding at_edge
returns-then-v-lt2 c = search rows

pub returns-then-v-gt61 : goal.returns-then-v-gt61
unfolding at_edge
returns-then-v-gt61 c = search rows

pub returns : goal.returns
unfolding at_edge
returns c = search rows
