-- `is_counted` meets its contract: each return is read off the rows of `counted`.
use Rattle.whole.specs.laws.Row.{rows}
use Rattle.session.specs.Header.{counted}
use Rattle.session.proofs.is_counted.Goals as goal

pub returns-then-w-ne0 : goal.returns-then-w-ne0
unfolding counted
returns-then-w-ne0 c = search rows depth 14 fits 20000

pub returns-then-h-ne0 : goal.returns-then-h-ne0
unfolding counted
returns-then-h-ne0 c = search rows depth 14 fits 20000

pub returns-then-headers-lt3 : goal.returns-then-headers-lt3
unfolding counted
returns-then-headers-lt3 c = search rows depth 14 fits 20000

pub returns-then-headers-eq3 : goal.returns-then-headers-eq3
unfolding counted
returns-then-headers-eq3 c = search rows depth 14 fits 20000

pub returns-then-headers-ne4 : goal.returns-then-headers-ne4
unfolding counted
returns-then-headers-ne4 c = search rows depth 14 fits 20000

pub returns-then-is_size : goal.returns-then-is_size
unfolding counted
returns-then-is_size c = search rows depth 14 fits 20000

pub returns : goal.returns
unfolding counted
returns c = search rows depth 14 fits 20000
