-- Two numbers of two bytes, the second 65,536 times, are `le32`.
use native.Mathlib.Omega.{arith}
use Rattle.wire.specs.Le.{le32}
use Rattle.wire.proofs.le32_at.Goals as goal

pub returns : goal.returns
unfolding le32
returns c = omega arith
