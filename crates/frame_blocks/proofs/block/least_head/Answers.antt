-- `least_head` meets its contract: it is `block_head` for a block of a least size. Assumes nothing.
use Rattle.whole.specs.Row.{◌⇒◌∣◌}
use Rattle.frame_layout.specs.Reader.{least_head}
use Rattle.frame_blocks.specs.Blocks.{head_by}
use Rattle.frame_blocks.proofs.block.least_head.Goals as goal

pub returns : goal.returns
unfolding least_head head_by ◌⇒◌∣◌
returns c = c.block_head.ensures
