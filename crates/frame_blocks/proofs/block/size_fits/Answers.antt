-- `size_fits` meets its contract. Assumes nothing.
use Rattle.whole.specs.laws.Row.{rows}
use Rattle.frame_blocks.proofs.block.size_fits.Goals as goal

pub returns-then-fixed : goal.returns-then-fixed
returns-then-fixed c = search rows

pub returns : goal.returns
returns c = search rows
