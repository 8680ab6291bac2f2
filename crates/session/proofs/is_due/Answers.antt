-- `is_due` meets its contract: each return is read off the rows of `due`.
use Rattle.whole.specs.laws.Row.{rows}
use Rattle.session.specs.Header.{due}
use Rattle.session.proofs.is_due.Goals as goal

pub returns-then-t-eq52416 : goal.returns-then-t-eq52416
unfolding due
returns-then-t-eq52416 c = search rows

pub returns-then-is_made : goal.returns-then-is_made
unfolding due
returns-then-is_made c = search rows

pub returns : goal.returns
unfolding due
returns c = search rows
