-- `tile_fields` meets its contract: each field is read where the definition reads it.
use mathlib.Core.Path.{◌∙◌}
use Rattle.frame_layout.specs.Reader.{size_at}
use Rattle.frame_blocks.specs.Tiles.{tile_fields}
use Rattle.frame_blocks.proofs.tile.tile_fields.Goals as goal

pub returns : goal.returns
unfolding tile_fields size_at
returns c =
    c.body_judge.ensures
    ∙ rw (
      c.le32_at-size.ensures.0,
      c.byte_at-qy.ensures.0,
      c.byte_at-qcb.ensures.0,
      c.byte_at-qcr.ensures.0,
      c.le16_at-x.ensures.0,
      c.le16_at-y.ensures.0,
      c.le16_at-ly.ensures.0,
      c.le16_at-lcb.ensures.0,
      c.le16_at-lcr.ensures.0,
    )
