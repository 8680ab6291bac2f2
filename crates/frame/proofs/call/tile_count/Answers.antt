-- `call::tile_count` meets its contract: a checked tileset is all there.
use native.Mathlib.Omega.{arith}
use Rattle.frame_layout.specs.Reader.{tile_count}
use Rattle.frame.proofs.call.tile_count.Goals as goal

pub overflow_add-sp : goal.overflow_add-sp
overflow_add-sp c = omega (arith, c.requires.good.there, c.requires.good.size, c.well_formed)

pub le16_at-requires : goal.le16_at-requires
le16_at-requires c = omega (arith, c.requires.good.there, c.requires.good.size)

pub returns : goal.returns
unfolding tile_count
returns c = c.le16_at.ensures.0
