-- Each return is one row of `waits`.
use Rattle.whole.specs.laws.Row.{rows}
use Rattle.tidy.specs.Headers.{waits}
use Rattle.tidy.proofs.headers.is_waiting.Goals as goal

pub returns-then-w-ne1 : goal.returns-then-w-ne1
unfolding waits
returns-then-w-ne1 c = search rows depth 14 fits 20000

pub returns-then-k-eq0 : goal.returns-then-k-eq0
unfolding waits
returns-then-k-eq0 c = search rows depth 14 fits 20000

pub returns-then-k-w : goal.returns-then-k-w
unfolding waits
returns-then-k-w c = search rows depth 14 fits 20000

pub returns-then-k-w-2 : goal.returns-then-k-w-2
unfolding waits
returns-then-k-w-2 c = search rows depth 14 fits 20000

pub returns : goal.returns
unfolding waits
returns c = search rows depth 14 fits 20000
