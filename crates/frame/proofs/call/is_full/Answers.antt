-- The four tests are the rows of `full`, one after the other.
use Rattle.whole.specs.laws.Row.{rows}
use Rattle.frame.specs.Frame.{full}
use Rattle.frame.proofs.call.is_full.Goals as goal

pub returns-then-a-ne4096 : goal.returns-then-a-ne4096
unfolding full
returns-then-a-ne4096 c = search rows depth 14 fits 20000

pub returns-then-b-ne4096 : goal.returns-then-b-ne4096
unfolding full
returns-then-b-ne4096 c = search rows depth 14 fits 20000

pub returns-then-c-ne4096 : goal.returns-then-c-ne4096
unfolding full
returns-then-c-ne4096 c = search rows depth 14 fits 20000

pub returns : goal.returns
unfolding full
returns c = search rows depth 14 fits 20000
