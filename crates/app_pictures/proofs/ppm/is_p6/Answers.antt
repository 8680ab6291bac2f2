-- Each return is one row of `is_p6`.
use Rattle.whole.specs.laws.Row.{rows}
use Rattle.app_pictures.specs.Ppm.{is_p6}
use Rattle.app_pictures.proofs.ppm.is_p6.Goals as goal

pub returns-then-m-lt2 : goal.returns-then-m-lt2
unfolding is_p6
returns-then-m-lt2 c = search rows

pub returns-then-m-ne80 : goal.returns-then-m-ne80
unfolding is_p6
returns-then-m-ne80 c = search rows

pub returns : goal.returns
unfolding is_p6
returns c = search rows
