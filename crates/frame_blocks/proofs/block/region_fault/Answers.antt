-- The first of head, codec, counts and last fields with a fault decides; each without one says that the next can be read (`region_sized`).
use mathlib.Core.Path.{refl, sym, ◌∙◌}
use native.Mathlib.Omega.{arith}
use Rattle.whole.specs.laws.Row.{goes_on}
use Rattle.frame_layout.specs.Reader.{region_fault, size_at, rect_count}
use Rattle.frame_blocks.specs.laws.Blocks.{handed_first, least_good, region_sized}
use Rattle.frame_blocks.proofs.block.region_fault.Goals as goal

pub returns-in_err-least_head : goal.returns-in_err-least_head
unfolding region_fault size_at rect_count
returns-in_err-least_head c = handed_first _ _ _ _ c.from_residual.ensures.1 c.in_err-least_head.ensures

pub returns-in_err-codec_fault : goal.returns-in_err-codec_fault
unfolding region_fault size_at rect_count
returns-in_err-codec_fault c =
    goes_on _ _ _ (sym c.in_ok-least_head.ensures) (handed_first _ _ _ _ c.from_residual-in_err-codec_fault.ensures.1 c.in_err-codec_fault.ensures)

pub codec_fault-requires : goal.codec_fault-requires
codec_fault-requires c =
    let g = least_good c.args.m.now c.args.at c.requires 0xCCC6 15 c.in_ok-least_head.ensures in omega arith

pub byte_at-flags-requires : goal.byte_at-flags-requires
byte_at-flags-requires c =
    let g = least_good c.args.m.now c.args.at c.requires 0xCCC6 15 c.in_ok-least_head.ensures in omega arith

pub le16_at-n-requires : goal.le16_at-n-requires
le16_at-n-requires c =
    let g = least_good c.args.m.now c.args.at c.requires 0xCCC6 15 c.in_ok-least_head.ensures in omega arith

pub le32_at-size-requires : goal.le32_at-size-requires
le32_at-size-requires c =
    let g = least_good c.args.m.now c.args.at c.requires 0xCCC6 15 c.in_ok-least_head.ensures in omega arith

pub le16_at-kind-requires : goal.le16_at-kind-requires
unfolding size_at rect_count
le16_at-kind-requires c =
    let g = region_sized c.args.m.now c.args.at c.requires c.byte_at-flags.result c.in_ok-least_head.ensures (c.in_ok-region_judge.ensures ∙ cc) in
    omega (arith, g.there, g.size, c.le16_at-n.ensures.0)

pub le16_at-sets-requires : goal.le16_at-sets-requires
unfolding size_at rect_count
le16_at-sets-requires c =
    let g = region_sized c.args.m.now c.args.at c.requires c.byte_at-flags.result c.in_ok-least_head.ensures (c.in_ok-region_judge.ensures ∙ cc) in
    omega (arith, g.there, g.size, c.le16_at-n.ensures.0)

pub returns-in_err-region_judge : goal.returns-in_err-region_judge
unfolding region_fault size_at rect_count
returns-in_err-region_judge c =
    goes_on _ _ _ (sym c.in_ok-least_head.ensures)
    (goes_on _ _ _ (sym c.in_ok-codec_fault.ensures) (handed_first _ _ _ _ c.from_residual-in_err-region_judge.ensures.1
    (rw (c.byte_at-flags.ensures.0, c.le16_at-n.ensures.0, c.le32_at-size.ensures.0) at c.in_err-region_judge.ensures)))

pub returns : goal.returns
unfolding region_fault size_at rect_count
returns c =
    goes_on _ _ _ (sym c.in_ok-least_head.ensures) (goes_on _ _ _ (sym c.in_ok-codec_fault.ensures) (goes_on _ _ _
    (sym (rw (c.byte_at-flags.ensures.0, c.le16_at-n.ensures.0, c.le32_at-size.ensures.0) at c.in_ok-region_judge.ensures))
    (c.last_judge.ensures ∙ rw (c.le16_at-kind.ensures.0, c.le16_at-sets.ensures.0, c.le16_at-n.ensures.0) refl)))
