-- `tile_diff::count::add_one` meets its contract: `one_more`, whose count is held at the largest, or has no place.
use Rattle.std.proofs.Common.{arith}
use Rattle.tile_diff.specs.laws.Count.{more_held, more_out}
use Rattle.tile_diff.proofs.count.add_one.Goals as goal

pub returns-then-k-counts : goal.returns-then-k-counts
returns-then-k-counts c = rw c.saturating_add.ensures (more_held _ _ (omega arith))

pub returns-else-k-counts : goal.returns-else-k-counts
returns-else-k-counts c = more_out _ _ c.if-k-counts.false
