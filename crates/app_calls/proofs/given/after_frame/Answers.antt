-- The definition, with one frame more.
use Rattle.std.proofs.Common.{refl}
use Rattle.app_calls.specs.Given.{frame_desk}
use Rattle.app_calls.proofs.given.after_frame.Goals as goal

pub returns : goal.returns
unfolding frame_desk
returns c = refl
