-- Each return is a row of `goes`.
use Rattle.whole.specs.laws.Row.{rows}
use Rattle.app_stream.specs.Skip.{goes}
use Rattle.app_stream.proofs.skip.goes_on.Goals as goal

pub returns-then-s-gt0 : goal.returns-then-s-gt0
unfolding goes
returns-then-s-gt0 c = search rows

pub returns-then-s : goal.returns-then-s
unfolding goes
returns-then-s c = search rows

pub returns-else-s : goal.returns-else-s
unfolding goes
returns-else-s c = search rows
