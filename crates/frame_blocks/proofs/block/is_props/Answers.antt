-- Each return is one row of `props_good`.
use Rattle.whole.specs.laws.Row.{rows}
use Rattle.frame_layout.specs.Reader.{props_good}
use Rattle.frame_blocks.proofs.block.is_props.Goals as goal

pub returns-then-p-ne1 : goal.returns-then-p-ne1
unfolding props_good
returns-then-p-ne1 c = search rows depth 14 fits 20000

pub returns-then-p-ne1-2 : goal.returns-then-p-ne1-2
unfolding props_good
returns-then-p-ne1-2 c = search rows depth 14 fits 20000

pub returns-then-p-ne1-3 : goal.returns-then-p-ne1-3
unfolding props_good
returns-then-p-ne1-3 c = search rows depth 14 fits 20000

pub returns-then-p-et : goal.returns-then-p-et
unfolding props_good
returns-then-p-et c = search rows depth 14 fits 20000

pub returns : goal.returns
unfolding props_good
returns c = search rows depth 14 fits 20000
