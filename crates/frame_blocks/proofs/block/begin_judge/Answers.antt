-- Each return is one row of `begin_judge`.
use Rattle.whole.specs.laws.Row.{rows}
use Rattle.frame_layout.specs.Reader.{begin_judge}
use Rattle.frame_blocks.proofs.block.begin_judge.Goals as goal

pub returns-then-regions-ne1 : goal.returns-then-regions-ne1
unfolding begin_judge
returns-then-regions-ne1 c = search rows depth 14 fits 20000

pub returns : goal.returns
unfolding begin_judge
returns c = search rows depth 14 fits 20000
