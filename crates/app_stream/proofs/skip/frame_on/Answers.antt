-- Each return is a row of `stays`: `stays_frame`, `stays_out`.
use Rattle.app_stream.specs.laws.Skip.{stays_frame, stays_out}
use Rattle.app_stream.proofs.skip.frame_on.Goals as goal

pub returns-then-part-eq-IN_FRAME : goal.returns-then-part-eq-IN_FRAME
returns-then-part-eq-IN_FRAME c = stays_frame _ _ c.if-part-eq-IN_FRAME.true

pub returns : goal.returns
returns c = stays_out _ _ c.if-part-eq-IN_FRAME.false
