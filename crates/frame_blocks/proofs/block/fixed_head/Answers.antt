-- `fixed_head` meets its contract: it is `block_head` for a block of a fixed size. Assumes nothing.
use Rattle.whole.specs.Row.{◌⇒◌∣◌}
use Rattle.frame_layout.specs.Reader.{fixed_head}
use Rattle.frame_blocks.specs.Blocks.{head_by}
use Rattle.frame_blocks.proofs.block.fixed_head.Goals as goal

pub returns : goal.returns
unfolding fixed_head head_by ◌⇒◌∣◌
returns c = c.block_head.ensures
