-- Each return is one row of `part_of`.
use native.Mathlib.Nat.{add-sub_cancel_left}
use Rattle.whole.specs.laws.Row.{rows}
use Rattle.sample.specs.Compare.{part_of}
use Rattle.sample.proofs.stages.part.Goals as goal

pub returns-then-list-a : goal.returns-then-list-a
unfolding part_of
returns-then-list-a c = search rows

pub returns-then-list-a-2 : goal.returns-then-list-a-2
unfolding part_of
returns-then-list-a-2 c = search rows

pub returns : goal.returns
unfolding part_of
returns c = simp add-sub_cancel_left (search rows)
