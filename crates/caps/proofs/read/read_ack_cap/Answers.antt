-- `caps::read::read_ack_cap` meets its contract: its layout is refused, or bytes follow it, or it is the whole message.
-- Assumes nothing.
use Rattle.caps.specs.AckCap.{ack_cap, read_ack_cap}
use Rattle.caps.specs.laws.Step.{all_refused, all_longer, all_taken}
use Rattle.caps.proofs.read.read_ack_cap.Goals as goal

pub returns-in_err-count : goal.returns-in_err-count
unfolding read_ack_cap
returns-in_err-count c = all_refused ack_cap _ _ _ c.from_residual.ensures.1 c.in_err-count.ensures

pub returns-in_err-finish : goal.returns-in_err-finish
unfolding read_ack_cap
returns-in_err-finish c = all_longer ack_cap _ _ _ c.in_ok-count.ensures _ _ c.from_residual-in_err-finish.ensures.1 c.in_err-finish.ensures

pub returns : goal.returns
unfolding read_ack_cap
returns c = all_taken ack_cap _ _ _ c.in_ok-count.ensures c.in_ok-finish.ensures
