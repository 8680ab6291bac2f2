-- `caps::write::modes_good` meets its contract: a row for each way out.
-- Assumes nothing.
use Rattle.whole.specs.laws.Row.{rows}
use Rattle.caps.specs.Caps.{modes_good}
use Rattle.caps.proofs.write.modes_good.Goals as goal

pub returns-then-s-eq0 : goal.returns-then-s-eq0
unfolding modes_good
returns-then-s-eq0 c = search rows

pub returns-then-s-eq1 : goal.returns-then-s-eq1
unfolding modes_good
returns-then-s-eq1 c = search rows

pub returns-then-not-is_mode : goal.returns-then-not-is_mode
unfolding modes_good
returns-then-not-is_mode c = search rows

pub returns : goal.returns
unfolding modes_good
returns c = search rows
