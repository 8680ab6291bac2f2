-- The definition itself.
use Rattle.std.proofs.Common.{refl}
use Rattle.app_calls.specs.Given.{started}
use Rattle.app_calls.proofs.given.start.Goals as goal

pub returns : goal.returns
unfolding started
returns c = refl
