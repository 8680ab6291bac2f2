-- The first of head, codec and the message's end with a fault decides (`handed_first`, `goes_on`).
use mathlib.Core.Path.{refl, sym}
use native.Mathlib.Omega.{arith}
use Rattle.whole.specs.laws.Row.{goes_on, passes, fails, eq_is, ne_is}
use Rattle.frame_layout.specs.Reader.{end_fault}
use Rattle.frame_blocks.specs.laws.Blocks.{handed_first, fixed_good}
use Rattle.frame_blocks.proofs.block.end_fault.Goals as goal

pub returns-in_err-fixed_head : goal.returns-in_err-fixed_head
unfolding end_fault
returns-in_err-fixed_head c = handed_first _ _ _ _ c.from_residual.ensures.1 c.in_err-fixed_head.ensures

pub returns-in_err-codec_fault : goal.returns-in_err-codec_fault
unfolding end_fault
returns-in_err-codec_fault c =
    goes_on _ _ _ (sym c.in_ok-fixed_head.ensures) (handed_first _ _ _ _ c.from_residual-in_err-codec_fault.ensures.1 c.in_err-codec_fault.ensures)

pub codec_fault-requires : goal.codec_fault-requires
codec_fault-requires c =
    let g = fixed_good c.args.m.now c.args.at (omega arith) 0xCCC5 8 c.in_ok-fixed_head.ensures in omega arith

pub returns-then-m-at : goal.returns-then-m-at
unfolding end_fault
returns-then-m-at c =
    goes_on _ _ _ (sym c.in_ok-fixed_head.ensures) (goes_on _ _ _ (sym c.in_ok-codec_fault.ensures) (fails _ _ _ _ (ne_is refl refl c.if-m-at.true) refl))

pub returns : goal.returns
unfolding end_fault
returns c =
    goes_on _ _ _ (sym c.in_ok-fixed_head.ensures) (goes_on _ _ _ (sym c.in_ok-codec_fault.ensures) (passes _ _ _ _ (eq_is refl refl c.if-m-at.false) refl))
