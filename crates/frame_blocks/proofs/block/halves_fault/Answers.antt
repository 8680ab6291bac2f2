-- Each return is one row of `halves_fault`.
use Rattle.whole.specs.laws.Row.{rows}
use Rattle.frame_layout.specs.Reader.{halves_fault}
use Rattle.frame_blocks.proofs.block.halves_fault.Goals as goal

pub returns-then-b-lt6 : goal.returns-then-b-lt6
unfolding halves_fault
returns-then-b-lt6 c = search rows depth 14 fits 20000

pub returns-then-b-lt6-2 : goal.returns-then-b-lt6-2
unfolding halves_fault
returns-then-b-lt6-2 c = search rows depth 14 fits 20000

pub returns-then-b-gt15 : goal.returns-then-b-gt15
unfolding halves_fault
returns-then-b-gt15 c = search rows depth 14 fits 20000

pub returns : goal.returns
unfolding halves_fault
returns c = search rows depth 14 fits 20000
