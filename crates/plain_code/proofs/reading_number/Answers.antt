-- `reading_number` meets its contract, by cases. Assumes nothing.
use mathlib.Core.Path.{ap, sym, ◌∙◌}
use Rattle.code.specs.Read.{reading_number}
use Rattle.plain_code.proofs.reading_number.Goals as goal

pub returns-in-Done : goal.returns-in-Done
unfolding reading_number
returns-in-Done c = sym (ap reading_number c.in-Done.is)

pub returns-in-Tail : goal.returns-in-Tail
unfolding reading_number
returns-in-Tail c = sym (ap reading_number c.in-Tail.is)

pub returns-in-Refused : goal.returns-in-Refused
unfolding reading_number
returns-in-Refused c = c.refusal_number.ensures ∙ sym (ap reading_number c.in-Refused.is)
