-- Each return is one row of `size_good`.
use Rattle.whole.specs.laws.Row.{rows}
use Rattle.session.specs.Header.{size_good}
use Rattle.session.proofs.is_size.Goals as goal

pub returns-then-w-lt1 : goal.returns-then-w-lt1
unfolding size_good
returns-then-w-lt1 c = search rows

pub returns-then-w-gt4096 : goal.returns-then-w-gt4096
unfolding size_good
returns-then-w-gt4096 c = search rows

pub returns-then-h-lt1 : goal.returns-then-h-lt1
unfolding size_good
returns-then-h-lt1 c = search rows

pub returns : goal.returns
unfolding size_good
returns c = search rows
