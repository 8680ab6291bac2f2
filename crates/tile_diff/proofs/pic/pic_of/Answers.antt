-- `tile_diff::pic::pic_of` meets its contract: the two rows of `pic_of`.
use Rattle.whole.specs.laws.Row.{rows, passes}
use Rattle.tile_diff.specs.Pic.{pic_of}
use Rattle.tile_diff.proofs.pic.pic_of.Goals as goal

pub returns-then-m-lt4 : goal.returns-then-m-lt4
unfolding pic_of
returns-then-m-lt4 c = search rows

pub returns : goal.returns
unfolding pic_of
returns c = passes _ _ _ _ (search rows) (cc)
