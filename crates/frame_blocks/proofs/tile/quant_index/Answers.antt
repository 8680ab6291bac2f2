-- The byte at 6 + k is index k of the tile's fields (`index_is`).
use mathlib.Core.Path.{◌∙◌}
use Rattle.frame_blocks.specs.laws.Tiles.{index_is}
use Rattle.frame_blocks.proofs.tile.quant_index.Goals as goal

pub returns : goal.returns
returns c = c.byte_at.ensures.0 ∙ index_is _ _ c.args.k c.requires.1
