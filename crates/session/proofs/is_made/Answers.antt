-- `is_made` meets its contract: each return is read off the row of `made`.
use Rattle.whole.specs.laws.Row.{rows}
use Rattle.session.specs.Header.{made}
use Rattle.session.proofs.is_made.Goals as goal

pub returns-then-s-gt1 : goal.returns-then-s-gt1
unfolding made
returns-then-s-gt1 c = search rows

pub returns-then-is_right : goal.returns-then-is_right
unfolding made
returns-then-is_right c = search rows

pub returns : goal.returns
unfolding made
returns c = search rows
