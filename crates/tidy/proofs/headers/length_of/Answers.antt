-- Each return is one row of `length_of`.
use Rattle.whole.specs.laws.Row.{rows}
use Rattle.tidy.specs.Headers.{length_of}
use Rattle.tidy.proofs.headers.length_of.Goals as goal

pub returns-then-k-eq1 : goal.returns-then-k-eq1
unfolding length_of
returns-then-k-eq1 c = search rows

pub returns-then-k-eq2 : goal.returns-then-k-eq2
unfolding length_of
returns-then-k-eq2 c = search rows

pub returns-then-k-eq3 : goal.returns-then-k-eq3
unfolding length_of
returns-then-k-eq3 c = search rows

pub returns : goal.returns
unfolding length_of
returns c = search rows
