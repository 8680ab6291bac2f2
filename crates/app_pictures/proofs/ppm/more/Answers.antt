-- Each return is one row of `more_of`.
use Rattle.whole.specs.laws.Row.{rows}
use Rattle.app_pictures.specs.Ppm.{more_of}
use Rattle.app_pictures.proofs.ppm.more.Goals as goal

pub returns-then-v-gt4294967295 : goal.returns-then-v-gt4294967295
unfolding more_of
returns-then-v-gt4294967295 c = search rows

pub returns-then-v-d-gt4294967295 : goal.returns-then-v-d-gt4294967295
unfolding more_of
returns-then-v-d-gt4294967295 c = search rows

pub returns : goal.returns
unfolding more_of
returns c = search rows
