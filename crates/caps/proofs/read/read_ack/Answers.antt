-- `caps::read::read_ack` meets its contract: its layout is refused, or bytes follow it, or it is the whole message.
-- Assumes nothing.
use Rattle.caps.specs.Ack.{ack, read_ack}
use Rattle.caps.specs.laws.Step.{all_refused, all_longer, all_taken}
use Rattle.caps.proofs.read.read_ack.Goals as goal

pub returns-in_err-fields : goal.returns-in_err-fields
unfolding read_ack
returns-in_err-fields c = all_refused ack _ _ _ c.from_residual.ensures.1 c.in_err-fields.ensures

pub returns-in_err-finish : goal.returns-in_err-finish
unfolding read_ack
returns-in_err-finish c = all_longer ack _ _ _ c.in_ok-fields.ensures _ _ c.from_residual-in_err-finish.ensures.1 c.in_err-finish.ensures

pub returns : goal.returns
unfolding read_ack
returns c = all_taken ack _ _ _ c.in_ok-fields.ensures c.in_ok-finish.ensures
