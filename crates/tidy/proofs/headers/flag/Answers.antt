-- Each return is one row of `flag_of`.
use Rattle.whole.specs.laws.Row.{rows}
use Rattle.tidy.specs.Headers.{flag_of}
use Rattle.tidy.proofs.headers.flag.Goals as goal

pub returns-then-sync : goal.returns-then-sync
unfolding flag_of
returns-then-sync c = search rows

pub returns : goal.returns
unfolding flag_of
returns c = search rows
