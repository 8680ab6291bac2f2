-- `collect::is_gathering` meets its contract: each return is a row of `made_gathering`.
use Rattle.whole.specs.laws.Row.{rows}
use Rattle.collect.specs.Collect.{made_gathering}
use Rattle.collect.proofs.is_gathering.Goals as goal

pub returns-then-c-ne0 : goal.returns-then-c-ne0
unfolding made_gathering
returns-then-c-ne0 c = search rows

pub returns-then-c-ne0-2 : goal.returns-then-c-ne0-2
unfolding made_gathering
returns-then-c-ne0-2 c = search rows

pub returns-then-c-ne0-3 : goal.returns-then-c-ne0-3
unfolding made_gathering
returns-then-c-ne0-3 c = search rows

pub returns-then-c-lt6 : goal.returns-then-c-lt6
unfolding made_gathering
returns-then-c-lt6 c = search rows

pub returns-then-c : goal.returns-then-c
unfolding made_gathering
returns-then-c c = search rows depth 14 fits 20000

pub returns : goal.returns
unfolding made_gathering
returns c = search rows depth 14 fits 20000
