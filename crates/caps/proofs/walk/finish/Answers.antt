-- `caps::walk::finish` meets its contract: a row for each way out.
-- Assumes nothing.
use mathlib.Core.Path.{refl, sym}
use Rattle.whole.specs.laws.Row.{passes, fails}
use Rattle.caps.specs.Step.{ends}
use Rattle.caps.proofs.walk.finish.Goals as goal

pub returns-then-not-is_empty : goal.returns-then-not-is_empty
unfolding ends
returns-then-not-is_empty c = fails _ _ _ _ (sym c.if-not-is_empty.ensures) refl

pub returns : goal.returns
unfolding ends
returns c = passes _ _ _ _ (sym c.if-not-is_empty.ensures) refl
