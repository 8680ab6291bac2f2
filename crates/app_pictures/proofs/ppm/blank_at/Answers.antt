-- Each return is one row of `blank_at`.
use Rattle.whole.specs.laws.Row.{rows}
use Rattle.app_pictures.specs.Ppm.{blank_at}
use Rattle.app_pictures.proofs.ppm.blank_at.Goals as goal

pub returns-then-at-m : goal.returns-then-at-m
unfolding blank_at
returns-then-at-m c = search rows

pub returns : goal.returns
unfolding blank_at
returns c = search rows
