-- `caps::walk::number` meets its contract: in each arm the width is known, and wire's readers say the rest.
-- Assumes nothing.
use mathlib.Core.Path.{ap}
use native.Mathlib.Omega.{arith}
use Rattle.caps.specs.Walk.{size, most}
use Rattle.caps.specs.Step.{number_at}
use Rattle.caps.proofs.walk.number.Goals as goal

pub byte_at-requires : goal.byte_at-requires
unfolding size
byte_at-requires c = omega (arith, ap size c.in-One.is)

pub le16_at-requires : goal.le16_at-requires
unfolding size
le16_at-requires c = omega (arith, ap size c.in-Two.is)

pub le32_at-requires : goal.le32_at-requires
unfolding size
le32_at-requires c = omega (arith, ap size c.in-Four.is)

pub returns-in-One : goal.returns-in-One
unfolding number_at most
returns-in-One c = rw c.in-One.is c.byte_at.ensures

pub returns-in-Two : goal.returns-in-Two
unfolding number_at most
returns-in-Two c = rw c.in-Two.is c.le16_at.ensures

pub returns-in-Four : goal.returns-in-Four
unfolding number_at most
returns-in-Four c = rw c.in-Four.is c.le32_at.ensures
