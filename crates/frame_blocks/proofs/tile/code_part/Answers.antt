-- A checked tile holds its three codes (`part_fits`), so the part of the message is there and is the code (`part_is`).
use native.Mathlib.Omega.{arith}
use native.Mathlib.Nat.{add-sub_cancel_left}
use Rattle.frame_blocks.specs.laws.Tiles.{part_fits, part_is}
use Rattle.frame_blocks.proofs.tile.code_part.Goals as goal

pub overflow_add-result : goal.overflow_add-result
overflow_add-result c =
    omega (arith, part_fits c.args.d.now c.args.at c.args.k c.requires.0 c.requires.1, c.le16_at-n.ensures.0, c.part_start-a.ensures)

pub slice_bounds-result-end : goal.slice_bounds-result-end
slice_bounds-result-end c =
    omega (arith, part_fits c.args.d.now c.args.at c.args.k c.requires.0 c.requires.1, c.le16_at-n.ensures.0, c.part_start-a.ensures)

pub returns : goal.returns
returns c =
    simp (add-sub_cancel_left, c.le16_at-n.ensures.0, c.part_start-a.ensures) (part_is _ _ c.args.k c.requires.1)
