-- The definition, with the bytes that were taken passed.
use Rattle.std.proofs.Common.{refl}
use Rattle.app_calls.specs.Given.{moved}
use Rattle.app_calls.proofs.given.advance.Goals as goal

pub returns : goal.returns
unfolding moved
returns c = refl
