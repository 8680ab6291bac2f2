-- `quants::chroma_index` meets its contract: by the test of both sets. Assumes nothing.
use mathlib.Core.Path.{sym, ◌∙◌}
use native.Mathlib.Omega.{arith}
use Rattle.quants.specs.laws.Quants.{index_one, index_two}
use Rattle.quants.proofs.chroma_index.Goals as goal

pub returns-then-is_same : goal.returns-then-is_same
returns-then-is_same c = (sym (index_one _ (sym c.is_same.ensures ∙ c.if-is_same.true)), omega arith)

pub returns : goal.returns
returns c = (sym (index_two _ (sym c.is_same.ensures ∙ c.if-is_same.false)), omega arith)
