-- Each return is one row of `bytes_fault`.
use Rattle.whole.specs.laws.Row.{rows}
use Rattle.app_pictures.specs.Ppm.{bytes_fault}
use Rattle.app_pictures.proofs.ppm.bytes_fault.Goals as goal

pub returns-then-n-at : goal.returns-then-n-at
unfolding bytes_fault
returns-then-n-at c = search rows

pub returns-then-n-at-2 : goal.returns-then-n-at-2
unfolding bytes_fault
returns-then-n-at-2 c = search rows

pub returns-then-need-n : goal.returns-then-need-n
unfolding bytes_fault
returns-then-need-n c = search rows

pub returns : goal.returns
unfolding bytes_fault
returns c = search rows
