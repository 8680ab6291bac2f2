-- Each return is one row of `field_of`.
use Rattle.whole.specs.laws.Row.{rows}
use Rattle.app_pictures.specs.Ppm.{field_of}
use Rattle.app_pictures.proofs.ppm.field_of.Goals as goal

pub returns-then-start-from : goal.returns-then-start-from
unfolding field_of
returns-then-start-from c = search rows

pub returns-then-f-start : goal.returns-then-f-start
unfolding field_of
returns-then-f-start c = search rows

pub returns : goal.returns
unfolding field_of
returns c = search rows
