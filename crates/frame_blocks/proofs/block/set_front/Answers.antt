-- The first of head, codec, fields and quantisers with a fault decides; each without one says that the next can be read (`least_good`, `set_sized`).
use mathlib.Core.Path.{sym, ◌∙◌}
use native.Mathlib.Omega.{arith}
use Rattle.whole.specs.laws.Row.{goes_on}
use Rattle.frame_layout.specs.Reader.{quant_count}
use Rattle.frame_blocks.specs.Blocks.{set_front}
use Rattle.frame_blocks.specs.laws.Blocks.{handed_first, least_good, set_sized}
use Rattle.frame_blocks.proofs.block.set_front.Goals as goal

pub returns-in_err-least_head : goal.returns-in_err-least_head
unfolding set_front quant_count
returns-in_err-least_head c = handed_first _ _ _ _ c.from_residual.ensures.1 c.in_err-least_head.ensures

pub returns-in_err-codec_fault : goal.returns-in_err-codec_fault
unfolding set_front quant_count
returns-in_err-codec_fault c =
    goes_on _ _ _ (sym c.in_ok-least_head.ensures) (handed_first _ _ _ _ c.from_residual-in_err-codec_fault.ensures.1 c.in_err-codec_fault.ensures)

pub returns-in_err-set_fields : goal.returns-in_err-set_fields
unfolding set_front quant_count
returns-in_err-set_fields c =
    goes_on _ _ _ (sym c.in_ok-least_head.ensures)
    (goes_on _ _ _ (sym c.in_ok-codec_fault.ensures) (handed_first _ _ _ _ c.from_residual-in_err-set_fields.ensures.1 c.in_err-set_fields.ensures))

pub codec_fault-requires : goal.codec_fault-requires
codec_fault-requires c =
    let g = least_good c.args.m.now c.args.at c.requires 0xCCC7 22 c.in_ok-least_head.ensures in omega arith

pub set_fields-requires : goal.set_fields-requires
set_fields-requires c =
    let g = least_good c.args.m.now c.args.at c.requires 0xCCC7 22 c.in_ok-least_head.ensures in omega arith

pub byte_at-q-requires : goal.byte_at-q-requires
byte_at-q-requires c =
    let g = least_good c.args.m.now c.args.at c.requires 0xCCC7 22 c.in_ok-least_head.ensures in omega arith

pub quants_fault-requires : goal.quants_fault-requires
unfolding quant_count
quants_fault-requires c =
    let g = set_sized c.args.m.now c.args.at c.requires c.args.mode c.in_ok-least_head.ensures c.in_ok-set_fields.ensures in
    omega (arith, g.there, g.size, c.byte_at-q.ensures.0)

pub returns : goal.returns
unfolding set_front quant_count
returns c =
    goes_on _ _ _ (sym c.in_ok-least_head.ensures)
    (goes_on _ _ _ (sym c.in_ok-codec_fault.ensures)
    (goes_on _ _ _ (sym c.in_ok-set_fields.ensures) (c.quants_fault.ensures ∙ rw c.byte_at-q.ensures.0)))
