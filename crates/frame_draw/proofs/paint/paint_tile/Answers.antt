-- Each turn keeps it, and at the end it is what is promised.
use Rattle.std.specs.Prelude.{◌+◌, ◌*◌, map}
use Rattle.std.proofs.Common.{◌∙◌, ap, arith}
use Rattle.frame_draw.specs.laws.Draw.{row_room}
use Rattle.frame_draw.specs.laws.Mask.{mask_in}
use Rattle.frame_draw.specs.laws.Paint.{paint_none, paint-row, paint_missed, paint_all}
use Rattle.frame_draw.proofs.paint.paint_tile.Goals as goal
use Rattle.frame_draw.proofs.paint.paint_tile.Goals.{else-mask-ne0, then-mask-ne0}

pub loop-y-init : goal.loop-y-init
loop-y-init g c = paint_none _ _ _ _ _ _ _ _

pub row_mask-mask-requires : goal.row_mask-mask-requires
row_mask-mask-requires g c = (c.requires.2, c.requires.1)

pub paint_row-requires : goal.paint_row-requires
paint_row-requires g c =
    let r = row_room (64 * c.args.s.ty + c.loop-y.y) c.args.s.h c.args.s.w (omega (arith, c.loop-y-test.true, c.part_of-rows.ensures)) in (
      omega (arith, r, c.requires.0, c.loop-y.auto.picture),
      omega (arith, c.loop-y-test.true, c.part_of-rows.ensures),
      c.requires.2,
      mask_in _ _ _ _ _ _ c.row_mask-mask.ensures,
      c.requires.4,
      c.requires.5,
      c.requires.6,
    )

pub loop-y-preserved : goal.loop-y-preserved
loop-y-preserved g c =
    let l = c.loop-y in
    elim c.if-mask-ne0.branch [
      | then-mask-ne0 v ↦ paint-row _ _ _ _ _ _ _ _ _ _ _ l.invariant _ c.part_of-rows.ensures c.loop-y-test.true _
          c.row_mask-mask.ensures (ap (map _) v.picture-is ∙ v.paint_row.ensures)
      | else-mask-ne0 v ↦ paint_missed _ _ _ _ _ _ _ _ _ _ _ l.invariant _
          c.part_of-rows.ensures c.loop-y-test.true _ c.row_mask-mask.ensures v.if-mask-ne0.false (ap (map _) v.picture-is)
    ]

pub returns : goal.returns
returns g c = paint_all _ _ _ _ _ _ _ _ _ _ c.loop-y.invariant _ c.part_of-rows.ensures (omega arith)
