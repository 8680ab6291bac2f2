-- The list is cleared, and nothing is meant.
use Rattle.tidy_code.specs.laws.Longer.{none_meant}
use Rattle.tidy_code.proofs.refuse.Goals as goal

pub returns : goal.returns
returns c = none_meant _ _ c.requires c.clear.ensures
