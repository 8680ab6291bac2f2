-- `collect::part_after` meets its contract: each return is a row of `part_after`.
use Rattle.whole.specs.laws.Row.{rows}
use Rattle.collect.specs.Collect.{part_after}
use Rattle.collect.proofs.part_after.Goals as goal

pub returns-then-kind-eq52421 : goal.returns-then-kind-eq52421
unfolding part_after
returns-then-kind-eq52421 c = search rows

pub returns-then-part-eq-IN_FRAME : goal.returns-then-part-eq-IN_FRAME
unfolding part_after
returns-then-part-eq-IN_FRAME c = search rows

pub returns-then-kind-eq52420 : goal.returns-then-kind-eq52420
unfolding part_after
returns-then-kind-eq52420 c = search rows

pub returns-then-kind-le52419 : goal.returns-then-kind-le52419
unfolding part_after
returns-then-kind-le52419 c = search rows

pub returns : goal.returns
unfolding part_after
returns c = search rows
