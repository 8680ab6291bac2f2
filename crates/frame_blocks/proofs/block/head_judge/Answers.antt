-- Each return is one row of `block_judge`.
use Rattle.whole.specs.laws.Row.{rows}
use Rattle.frame_layout.specs.Reader.{block_judge}
use Rattle.frame_blocks.proofs.block.head_judge.Goals as goal

pub returns-then-is-kind : goal.returns-then-is-kind
unfolding block_judge
returns-then-is-kind c = search rows depth 14 fits 20000

pub returns-then-room-size : goal.returns-then-room-size
unfolding block_judge
returns-then-room-size c = search rows depth 14 fits 20000

pub returns-then-not-fits : goal.returns-then-not-fits
unfolding block_judge
returns-then-not-fits c = search rows depth 14 fits 20000

pub returns : goal.returns
unfolding block_judge
returns c = search rows depth 14 fits 20000
