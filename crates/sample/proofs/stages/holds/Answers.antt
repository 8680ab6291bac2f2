-- Past the end nothing is held; before it the bits decide.
use native.Mathlib.Omega.{arith}
use Rattle.sample.specs.laws.Compare.{holds_past, holds_bits}
use Rattle.sample.proofs.stages.holds.Goals as goal

pub returns-then-list-i : goal.returns-then-list-i
returns-then-list-i c = holds_past _ _ _ c.if-list-i.true

pub returns : goal.returns
returns c = holds_bits _ _ _ (omega (arith, c.if-list-i.false)) (record { sfits = c.result-1.given }) c.ranges.x
