-- Within 32,767 on both sides is the range (`span_range`).
use mathlib.Core.Path.{◌∙◌}
use Rattle.code_write.specs.laws.Span.{span_range}
use Rattle.code_write.proofs.call.in_range.Goals as goal

pub returns : goal.returns
returns c = c.within.ensures ∙ span_range _
