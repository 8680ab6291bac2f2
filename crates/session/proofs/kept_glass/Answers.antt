-- `kept_glass` meets its contract: each return is read off the case of `kept_glass`.
use Rattle.whole.specs.laws.Row.{rows}
use Rattle.session.specs.Header.{kept_glass}
use Rattle.session.proofs.kept_glass.Goals as goal

pub returns-then-glass-le1 : goal.returns-then-glass-le1
unfolding kept_glass
returns-then-glass-le1 c = search rows

pub returns : goal.returns
unfolding kept_glass
returns c = search rows
