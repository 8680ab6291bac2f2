-- Each turn keeps it, and at the end it is what is promised.
use mathlib.Core.Path.{refl, ap, sym, ◌∙◌}
use native.Mathlib.Omega.{arith}
use Rattle.frame_draw.specs.Spans.{mask_of}
use Rattle.frame_draw.specs.laws.Clip.{clip_room, clip_counts, clip_is}
use Rattle.frame_draw.specs.laws.Search.{not_none}
use Rattle.frame_draw.specs.laws.Mask.{masked_none, masked_next, masked_missed, masked_all, masked_whole, row_masked, row_whole}
use Rattle.frame_draw.proofs.row.row_mask.Goals as goal
use Rattle.frame_draw.proofs.row.row_mask.Goals.{else-clip_on, then-clip_on+else-m-full}

pub part_of-requires : goal.part_of-requires
part_of-requires c = omega arith

pub mask_of-full-requires : goal.mask_of-full-requires
mask_of-full-requires c = omega (arith, c.part_of.ensures)

pub returns-then-n-eq0 : goal.returns-then-n-eq0
returns-then-n-eq0 c = row_whole _ _ _ _ _ _ c.if-n-eq0.true (c.mask_of-full.ensures ∙ ap (mask_of 0) c.part_of.ensures)

pub rectangles-init : goal.rectangles-init
rectangles-init c = (omega arith, masked_none _ _ _ _)

pub clip_on-requires : goal.clip_on-requires
clip_on-requires c =
    let g = c.requires.1 in
    let l = c.rectangles-test.true in
    (clip_room _ _ _ _ _ g _ l, clip_counts _ _ _ _ _ g _ l)

pub clip_mask-m-requires : goal.clip_mask-m-requires
clip_mask-m-requires c =
    clip_room _ _ _ _ _ c.requires.1 _ c.rectangles-test.true

pub rectangles-preserved : goal.rectangles-preserved
rectangles-preserved c =
    let g = c.rectangles.invariant in
    let is = clip_is _ _ _ _ _ c.requires.1 _ c.rectangles-test.true in
    let on = sym c.clip_on.ensures in (
      omega (arith, c.rectangles-test.true),
      elim c.if-clip_on.branch [
        | then-clip_on+else-m-full v ↦ masked_next _ _ _ _ _ _ _ _ g.1 is _ (on ∙ v.if-clip_on.true) v.clip_mask-m.ensures v.m-is
        | else-clip_on v ↦ masked_missed _ _ _ _ _ _ _ _ g.1 is (on ∙ v.if-clip_on.false) v.m-is
      ],
    )

pub returns-after-rectangles : goal.returns-after-rectangles
returns-after-rectangles c =
    let all = masked_all _ _ _ _ _ _ _ c.rectangles.invariant.0 (omega arith) c.rectangles.invariant.1 in
    row_masked _ _ _ _ _ _ (not_none _ c.if-n-eq0.false) all

pub returns-then-m-full : goal.returns-then-m-full
returns-then-m-full c =
    let is = clip_is _ _ _ _ _ c.requires.1 _ c.rectangles-test.true in
    let on = sym c.clip_on.ensures ∙ c.if-clip_on.true in
    let next = masked_next _ _ _ _ _ _ _ _ c.rectangles.invariant.1 is _ on c.clip_mask-m.ensures refl in
    let whole = c.if-m-full.true ∙ (c.mask_of-full.ensures ∙ ap (mask_of 0) c.part_of.ensures) in
    row_masked _ _ _ _ _ _ (not_none _ c.if-n-eq0.false) (masked_whole _ _ _ _ _ _ _ (omega (arith, c.rectangles-test.true)) next whole)
