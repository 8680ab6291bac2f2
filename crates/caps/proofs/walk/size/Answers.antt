-- `caps::walk::size` meets its contract: in each arm the width is known.
-- Assumes nothing.
use mathlib.Core.Path.{ap, sym}
use Rattle.caps.specs.Walk.{size}
use Rattle.caps.proofs.walk.size.Goals as goal

pub returns-in-One : goal.returns-in-One
unfolding size
returns-in-One c = sym (ap size c.in-One.is)

pub returns-in-Two : goal.returns-in-Two
unfolding size
returns-in-Two c = sym (ap size c.in-Two.is)

pub returns-in-Four : goal.returns-in-Four
unfolding size
returns-in-Four c = sym (ap size c.in-Four.is)
