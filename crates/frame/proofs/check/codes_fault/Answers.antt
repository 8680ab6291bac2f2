-- The first of the three with a fault decides: `handed_first`, one for each way out.
use mathlib.Core.Path.{sym}
use Rattle.whole.specs.laws.Row.{goes_on}
use Rattle.frame_layout.specs.Reader.{codes_fault}
use Rattle.frame_blocks.specs.Tiles.{index_of, code_part}
use Rattle.frame_blocks.specs.laws.Blocks.{handed_first}
use Rattle.frame.proofs.check.codes_fault.Goals as goal

pub returns-in_err-part_fault : goal.returns-in_err-part_fault
unfolding codes_fault index_of code_part
returns-in_err-part_fault c = handed_first _ _ _ _ c.from_residual.ensures.1 c.in_err-part_fault.ensures

pub returns-in_err-part_fault-2 : goal.returns-in_err-part_fault-2
unfolding codes_fault index_of code_part
returns-in_err-part_fault-2 c =
    goes_on _ _ _ (sym c.in_ok-part_fault.ensures)
    (handed_first _ _ _ _ c.from_residual-in_err-part_fault-2.ensures.1 c.in_err-part_fault-2.ensures)

pub returns : goal.returns
unfolding codes_fault index_of code_part
returns c = goes_on _ _ _ (sym c.in_ok-part_fault.ensures) (goes_on _ _ _ (sym c.in_ok-part_fault-2.ensures) c.part_fault-3.ensures)
