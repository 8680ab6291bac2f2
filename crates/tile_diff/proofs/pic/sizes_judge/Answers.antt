-- `tile_diff::pic::sizes_judge` meets its contract: each return is a row of `sizes_judge`.
use Rattle.whole.specs.laws.Row.{rows}
use Rattle.tile_diff.specs.Pic.{sizes_judge}
use Rattle.tile_diff.proofs.pic.sizes_judge.Goals as goal

pub returns-then-a-b : goal.returns-then-a-b
unfolding sizes_judge
returns-then-a-b c = search rows

pub returns-then-a-b-2 : goal.returns-then-a-b-2
unfolding sizes_judge
returns-then-a-b-2 c = search rows

pub returns : goal.returns
unfolding sizes_judge
returns c = search rows
