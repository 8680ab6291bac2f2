-- The second set is asked where the first is good: the two ways through `good_sets`.
use Rattle.whole.specs.laws.Row.{rows}
use Rattle.frame_write.specs.Sets.{good_sets}
use Rattle.frame_write.proofs.call.is_good.Goals as goal

pub returns-then-is_good : goal.returns-then-is_good
unfolding good_sets
returns-then-is_good c = search rows

pub returns-else-is_good : goal.returns-else-is_good
unfolding good_sets
returns-else-is_good c = search rows
