-- Each return is one row of `sized_pair`.
use Rattle.whole.specs.laws.Row.{rows}
use Rattle.app_send.specs.Pair.{sized_pair}
use Rattle.app_send.proofs.pair.sized.Goals as goal

pub returns-then-two-one : goal.returns-then-two-one
unfolding sized_pair
returns-then-two-one c = search rows

pub returns-then-two-one-2 : goal.returns-then-two-one-2
unfolding sized_pair
returns-then-two-one-2 c = search rows

pub returns : goal.returns
unfolding sized_pair
returns c = search rows
