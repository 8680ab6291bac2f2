-- The two cases of `counted_if`.
use mathlib.Core.Path.{refl}
use Rattle.whole.specs.laws.Row.{case_yes, case_no}
use Rattle.tile_diff.specs.Counts.{counted_if}
use Rattle.tile_diff.proofs.glasses.count_if.Goals as goal

pub returns-then-differ : goal.returns-then-differ
unfolding counted_if
returns-then-differ c = case_yes _ _ _ _ c.if-differ.true c.add_one.ensures

pub returns-else-differ : goal.returns-else-differ
unfolding counted_if
returns-else-differ c = case_no _ _ _ _ c.if-differ.false refl
