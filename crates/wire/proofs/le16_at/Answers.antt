-- The sum is `le16`'s; two bytes are below 65,536.
use native.Mathlib.Omega.{arith}
use Rattle.wire.specs.Le.{le16}
use Rattle.wire.proofs.le16_at.Goals as goal

pub returns : goal.returns
unfolding le16
returns c = omega arith
