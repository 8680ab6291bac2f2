-- By the two cases.
use Rattle.sample.specs.Compare.{one_if}
use Rattle.sample.proofs.stages.one.Goals as goal

pub returns-then-is : goal.returns-then-is
unfolding one_if
returns-then-is c = cc

pub returns-else-is : goal.returns-else-is
unfolding one_if
returns-else-is c = cc
