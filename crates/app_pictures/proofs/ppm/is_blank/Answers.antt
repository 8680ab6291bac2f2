-- Each return is one row of `is_blank`.
use Rattle.whole.specs.laws.Row.{rows}
use Rattle.app_pictures.specs.Ppm.{is_blank}
use Rattle.app_pictures.proofs.ppm.is_blank.Goals as goal

pub returns-then-b-lt9 : goal.returns-then-b-lt9
unfolding is_blank
returns-then-b-lt9 c = search rows

pub returns-then-b-le13 : goal.returns-then-b-le13
unfolding is_blank
returns-then-b-le13 c = search rows

pub returns : goal.returns
unfolding is_blank
returns c = search rows
