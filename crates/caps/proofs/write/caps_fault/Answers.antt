-- `caps::write::caps_fault` meets its contract: a row for each way out.
-- Assumes nothing.
use Rattle.whole.specs.laws.Row.{rows}
use Rattle.caps.specs.Caps.{caps_fault}
use Rattle.caps.proofs.write.caps_fault.Goals as goal

pub returns-then-c-gt2 : goal.returns-then-c-gt2
unfolding caps_fault
returns-then-c-gt2 c = search rows

pub returns-then-room-c : goal.returns-then-room-c
unfolding caps_fault
returns-then-room-c c = search rows

pub returns-then-not-modes_good : goal.returns-then-not-modes_good
unfolding caps_fault
returns-then-not-modes_good c = search rows

pub returns : goal.returns
unfolding caps_fault
returns c = search rows
