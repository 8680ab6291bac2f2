-- The tileset's counts and data are read where the definition reads them.
use mathlib.Core.Path.{◌∙◌}
use Rattle.frame_layout.specs.Reader.{quant_count, tile_count}
use Rattle.tidy.proofs.frames.set_layout.Goals as goal

pub returns : goal.returns
unfolding quant_count tile_count
returns c =
    c.tiles_layout.ensures ∙ rw (c.byte_at-q.ensures.0, c.le16_at-n.ensures.0, c.tile_data-d.ensures)
