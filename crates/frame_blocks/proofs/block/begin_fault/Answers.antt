-- The first of head, codec and fields with a fault decides; a good head says that the fields are there (`fixed_good`).
use mathlib.Core.Path.{ap, sym, ◌∙◌}
use native.Mathlib.Omega.{arith}
use Rattle.whole.specs.laws.Row.{goes_on}
use Rattle.frame_layout.specs.Reader.{begin_fault, begin_judge}
use Rattle.frame_blocks.specs.laws.Blocks.{handed_first, fixed_good}
use Rattle.frame_blocks.proofs.block.begin_fault.Goals as goal

pub returns-in_err-fixed_head : goal.returns-in_err-fixed_head
unfolding begin_fault
returns-in_err-fixed_head c = handed_first _ _ _ _ c.from_residual.ensures.1 c.in_err-fixed_head.ensures

pub returns-in_err-codec_fault : goal.returns-in_err-codec_fault
unfolding begin_fault
returns-in_err-codec_fault c =
    goes_on _ _ _ (sym c.in_ok-fixed_head.ensures) (handed_first _ _ _ _ c.from_residual-in_err-codec_fault.ensures.1 c.in_err-codec_fault.ensures)

pub codec_fault-requires : goal.codec_fault-requires
codec_fault-requires c = let g = fixed_good c.args.m.now 0 (omega arith) 0xCCC4 14 c.in_ok-fixed_head.ensures in omega arith

pub le16_at-regions-requires : goal.le16_at-regions-requires
le16_at-regions-requires c = let g = fixed_good c.args.m.now 0 (omega arith) 0xCCC4 14 c.in_ok-fixed_head.ensures in omega arith

pub returns : goal.returns
unfolding begin_fault
returns c =
    goes_on _ _ _ (sym c.in_ok-fixed_head.ensures)
    (goes_on _ _ _ (sym c.in_ok-codec_fault.ensures) (c.begin_judge.ensures ∙ ap begin_judge c.le16_at-regions.ensures.0))
