-- Each return is one row of `first_of`.
use Rattle.whole.specs.laws.Row.{rows}
use Rattle.app_text.specs.First.{first_of}
use Rattle.app_text.proofs.loading.first.Goals as goal

pub returns-then-s-n : goal.returns-then-s-n
unfolding first_of
returns-then-s-n c = search rows

pub returns : goal.returns
unfolding first_of
returns c = search rows
