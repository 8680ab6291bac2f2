-- `collect::is_between` meets its contract: each return is a row of `between`.
use Rattle.whole.specs.laws.Row.{rows}
use Rattle.collect.specs.Collect.{between}
use Rattle.collect.proofs.is_between.Goals as goal

pub returns-then-part-eq-OUTSIDE : goal.returns-then-part-eq-OUTSIDE
unfolding between
returns-then-part-eq-OUTSIDE c = search rows

pub returns-then-part-ne-IN_FRAME : goal.returns-then-part-ne-IN_FRAME
unfolding between
returns-then-part-ne-IN_FRAME c = search rows

pub returns : goal.returns
unfolding between
returns c = search rows
