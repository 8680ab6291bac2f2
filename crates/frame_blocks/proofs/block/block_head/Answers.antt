-- `block_head` meets its contract: the head is there, and what it says is judged. Assumes nothing.
use Rattle.whole.specs.laws.Row.{rows, passes}
use Rattle.frame_layout.specs.Reader.{size_at}
use Rattle.frame_blocks.specs.Blocks.{head_by}
use Rattle.frame_blocks.proofs.block.block_head.Goals as goal

pub returns-then-room-lt6 : goal.returns-then-room-lt6
unfolding head_by size_at
returns-then-room-lt6 c = search rows

pub returns : goal.returns
unfolding head_by size_at
returns c = passes _ _ _ _ (search rows) (cc)
