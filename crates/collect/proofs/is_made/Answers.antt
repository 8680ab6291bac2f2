-- `collect::is_made` meets its contract: each return is a row of `collector_made`.
use Rattle.whole.specs.laws.Row.{rows}
use Rattle.collect.specs.Collect.{collector_made}
use Rattle.collect.proofs.is_made.Goals as goal

pub returns-then-c-eq0 : goal.returns-then-c-eq0
unfolding collector_made
returns-then-c-eq0 c = search rows

pub returns : goal.returns
unfolding collector_made
returns c = search rows
