-- The definition itself.
use Rattle.std.proofs.Common.{refl}
use Rattle.app_calls.specs.Given.{fresh_desk}
use Rattle.app_calls.proofs.given.fresh.Goals as goal

pub returns : goal.returns
unfolding fresh_desk
returns c = refl
