-- Each return is one row of `lent_fault`.
use Rattle.whole.specs.laws.Row.{rows}
use Rattle.tile_diff.specs.Pictures.{lent_fault}
use Rattle.tile_diff.proofs.glasses.lent_fault.Goals as goal

pub returns-then-a-words : goal.returns-then-a-words
unfolding lent_fault
returns-then-a-words c = search rows

pub returns-then-b-words : goal.returns-then-b-words
unfolding lent_fault
returns-then-b-words c = search rows

pub returns-then-counts-tiles : goal.returns-then-counts-tiles
unfolding lent_fault
returns-then-counts-tiles c = search rows

pub returns : goal.returns
unfolding lent_fault
returns c = search rows
