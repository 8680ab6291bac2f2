-- `caps::write::ack_fault` meets its contract: a row for each way out.
-- Assumes nothing.
use Rattle.whole.specs.laws.Row.{rows}
use Rattle.caps.specs.Ack.{ack_fault}
use Rattle.caps.proofs.write.ack_fault.Goals as goal

pub returns-then-version-gt4095 : goal.returns-then-version-gt4095
unfolding ack_fault
returns-then-version-gt4095 c = search rows

pub returns-then-room-lt22 : goal.returns-then-room-lt22
unfolding ack_fault
returns-then-room-lt22 c = search rows

pub returns : goal.returns
unfolding ack_fault
returns c = search rows
