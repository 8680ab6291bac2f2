-- Each return is one row of `place_of`.
use Rattle.whole.specs.laws.Row.{rows}
use Rattle.tidy.specs.Headers.{place_of}
use Rattle.tidy.proofs.headers.place_of.Goals as goal

pub returns-then-k-eq1 : goal.returns-then-k-eq1
unfolding place_of
returns-then-k-eq1 c = search rows

pub returns-then-k-eq2 : goal.returns-then-k-eq2
unfolding place_of
returns-then-k-eq2 c = search rows

pub returns : goal.returns
unfolding place_of
returns c = search rows
