-- `draw::is_inside` meets its contract: a row of checks.
use Rattle.whole.specs.laws.Row.{rows}
use Rattle.frame_draw.specs.Draw.{inside}
use Rattle.frame_draw.proofs.row.is_inside.Goals as goal

pub returns-then-px-x : goal.returns-then-px-x
unfolding inside
returns-then-px-x c = search rows depth 14 fits 20000

pub returns-then-x-w : goal.returns-then-x-w
unfolding inside
returns-then-x-w c = search rows depth 14 fits 20000

pub returns-then-py-y : goal.returns-then-py-y
unfolding inside
returns-then-py-y c = search rows depth 14 fits 20000

pub returns : goal.returns
unfolding inside
returns c = search rows depth 14 fits 20000
