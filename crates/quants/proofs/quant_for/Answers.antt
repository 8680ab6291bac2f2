-- `quants::quant_for` meets its contract: each return is read off the row of `quant_for`. Assumes nothing.
use Rattle.whole.specs.laws.Row.{rows}
use Rattle.quants.specs.Quants.{quant_for}
use Rattle.quants.proofs.quant_for.Goals as goal

pub returns-then-c-eq0 : goal.returns-then-c-eq0
unfolding quant_for
returns-then-c-eq0 c = search rows

pub returns : goal.returns
unfolding quant_for
returns c = search rows
