-- Each return is one row of `region_judge`; n is small enough for 15 + 8 n.
use Rattle.whole.specs.laws.Row.{rows}
use Rattle.frame_layout.specs.Reader.{region_judge}
use Rattle.frame_blocks.proofs.block.region_judge.Goals as goal

pub returns-then-flags-ne1 : goal.returns-then-flags-ne1
unfolding region_judge
returns-then-flags-ne1 c = search rows depth 14 fits 20000

pub returns-then-n-gt256 : goal.returns-then-n-gt256
unfolding region_judge
returns-then-n-gt256 c = search rows depth 14 fits 20000

pub returns-then-size-n : goal.returns-then-size-n
unfolding region_judge
returns-then-size-n c = search rows depth 14 fits 20000

pub returns : goal.returns
unfolding region_judge
returns c = search rows depth 14 fits 20000
