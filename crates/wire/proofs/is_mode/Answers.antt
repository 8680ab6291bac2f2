-- `is_mode` meets its contract, by the row of `is_mode`.
use Rattle.wire.specs.Mode.{is_mode}
use Rattle.whole.specs.laws.Row.{rows}
use Rattle.wire.proofs.is_mode.Goals as goal

pub returns-then-et-eq1 : goal.returns-then-et-eq1
unfolding is_mode
returns-then-et-eq1 c = search rows

pub returns : goal.returns
unfolding is_mode
returns c = search rows
