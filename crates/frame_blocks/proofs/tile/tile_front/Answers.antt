-- `tile_front` meets its contract: the head's fault, or the fields' of a tile whose head is there.
use mathlib.Core.Path.{sym}
use native.Mathlib.Omega.{arith}
use Rattle.whole.specs.laws.Row.{goes_on}
use Rattle.frame_blocks.specs.Tiles.{tile_front}
use Rattle.frame_blocks.specs.laws.Blocks.{handed_first, least_good}
use Rattle.frame_blocks.proofs.tile.tile_front.Goals as goal

pub returns-in_err-least_head : goal.returns-in_err-least_head
unfolding tile_front
returns-in_err-least_head c = handed_first _ _ _ _ c.from_residual.ensures.1 c.in_err-least_head.ensures

pub tile_fields-requires : goal.tile_fields-requires
tile_fields-requires c =
    let g = least_good c.args.d.now c.args.at c.requires.1 0xCAC3 19 c.in_ok-least_head.ensures in (c.requires.0, omega arith)

pub returns : goal.returns
unfolding tile_front
returns c = goes_on _ _ _ (sym c.in_ok-least_head.ensures) (c.tile_fields.ensures)
