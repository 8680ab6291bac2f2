-- Each return is one row of `kind_by`.
use Rattle.whole.specs.laws.Row.{rows}
use Rattle.tidy.specs.Headers.{kind_by}
use Rattle.tidy.proofs.headers.kind_by.Goals as goal

pub returns-then-long-eq10 : goal.returns-then-long-eq10
unfolding kind_by
returns-then-long-eq10 c = search rows

pub returns-then-kind-eq52417 : goal.returns-then-kind-eq52417
unfolding kind_by
returns-then-kind-eq52417 c = search rows

pub returns-then-long-eq12 : goal.returns-then-long-eq12
unfolding kind_by
returns-then-long-eq12 c = search rows

pub returns-then-kind-eq52418 : goal.returns-then-kind-eq52418
unfolding kind_by
returns-then-kind-eq52418 c = search rows

pub returns-then-long-eq13 : goal.returns-then-long-eq13
unfolding kind_by
returns-then-long-eq13 c = search rows

pub returns-then-kind-eq52419 : goal.returns-then-kind-eq52419
unfolding kind_by
returns-then-kind-eq52419 c = search rows

pub returns : goal.returns
unfolding kind_by
returns c = search rows
