-- `open` meets its contract: the record of a glass and four zeros.
use mathlib.Core.Path.{◌∙◌}
use native.Mathlib.Omega.{arith}
use Rattle.session.specs.laws.Header.{numbers_at}
use Rattle.session.proofs.open.Goals as goal

pub returns : goal.returns
returns c = c.of_glass.ensures ∙ numbers_at _ 0 0 0 0 (omega arith) (omega arith)
