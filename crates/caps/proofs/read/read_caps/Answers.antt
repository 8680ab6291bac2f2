-- `caps::read::read_caps` meets its contract: its layout is refused, or bytes follow it, or it is the whole message.
-- Assumes nothing.
use Rattle.caps.specs.Caps.{container, read_caps}
use Rattle.caps.specs.laws.Step.{all_refused, all_longer, all_taken}
use Rattle.caps.proofs.read.read_caps.Goals as goal

pub returns-in_err-caps : goal.returns-in_err-caps
unfolding read_caps
returns-in_err-caps c = all_refused container _ _ _ c.from_residual.ensures.1 c.in_err-caps.ensures

pub returns-in_err-finish : goal.returns-in_err-finish
unfolding read_caps
returns-in_err-finish c = all_longer container _ _ _ c.in_ok-caps.ensures _ _ c.from_residual-in_err-finish.ensures.1 c.in_err-finish.ensures

pub returns : goal.returns
unfolding read_caps
returns c = all_taken container _ _ _ c.in_ok-caps.ensures c.in_ok-finish.ensures
