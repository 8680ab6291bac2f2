-- Each return is one row of `last_judge`.
use Rattle.whole.specs.laws.Row.{rows}
use Rattle.frame_layout.specs.Reader.{last_judge}
use Rattle.frame_blocks.proofs.block.last_judge.Goals as goal

pub returns-then-kind-ne51905 : goal.returns-then-kind-ne51905
unfolding last_judge
returns-then-kind-ne51905 c = search rows depth 14 fits 20000

pub returns-then-sets-ne1 : goal.returns-then-sets-ne1
unfolding last_judge
returns-then-sets-ne1 c = search rows depth 14 fits 20000

pub returns : goal.returns
unfolding last_judge
returns c = search rows depth 14 fits 20000
