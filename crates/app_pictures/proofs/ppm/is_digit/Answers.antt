-- Each return is one row of `is_digit`.
use Rattle.whole.specs.laws.Row.{rows}
use Rattle.app_pictures.specs.Ppm.{is_digit}
use Rattle.app_pictures.proofs.ppm.is_digit.Goals as goal

pub returns-then-b-lt48 : goal.returns-then-b-lt48
unfolding is_digit
returns-then-b-lt48 c = search rows

pub returns : goal.returns
unfolding is_digit
returns c = search rows
