-- `check` meets its contract: the tileset's counts and data are read where the definition reads them.
use mathlib.Core.Path.{◌∙◌}
use Rattle.frame_layout.specs.Reader.{quant_count, tile_count}
use Rattle.frame.proofs.check.check.Goals as goal

pub tiles_fault-requires : goal.tiles_fault-requires
unfolding quant_count
tiles_fault-requires c =
    let p = c.requires in
    (p.0, p.1, p.2, c.byte_at-q.ensures.0)

pub returns : goal.returns
unfolding quant_count tile_count
returns c =
    c.tiles_fault.ensures ∙ rw (c.byte_at-q.ensures.0, c.le16_at-n.ensures.0, c.tile_data-d.ensures)
