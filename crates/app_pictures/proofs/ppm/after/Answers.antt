-- Each arm is one row of `after_of`.
use Rattle.whole.specs.laws.Row.{rows}
use Rattle.app_pictures.specs.Ppm.{after_of}
use Rattle.app_pictures.proofs.ppm.after.Goals as goal

pub returns-in-Comment : goal.returns-in-Comment
unfolding after_of
returns-in-Comment c = rw c.in-Comment.is (search rows)

pub returns-in-Comment-2 : goal.returns-in-Comment-2
unfolding after_of
returns-in-Comment-2 c = rw c.in-Comment.is (search rows)

pub returns-in-Blank : goal.returns-in-Blank
unfolding after_of
returns-in-Blank c = rw c.in-Blank.is (search rows)

pub returns-in-Blank-2 : goal.returns-in-Blank-2
unfolding after_of
returns-in-Blank-2 c = rw c.in-Blank.is (search rows)

pub returns-in-Blank-3 : goal.returns-in-Blank-3
unfolding after_of
returns-in-Blank-3 c = rw c.in-Blank.is (search rows)
