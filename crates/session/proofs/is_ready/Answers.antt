-- `is_ready` meets its contract: each return is read off the row of `ready`.
use Rattle.whole.specs.laws.Row.{rows}
use Rattle.session.specs.Header.{ready}
use Rattle.session.proofs.is_ready.Goals as goal

pub returns-then-s-ne4 : goal.returns-then-s-ne4
unfolding ready
returns-then-s-ne4 c = search rows

pub returns : goal.returns
unfolding ready
returns c = search rows
