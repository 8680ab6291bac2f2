-- Each way of the match is a row of `reading_bits`.
use mathlib.Core.Path.{ap, sym}
use Rattle.code.specs.Read.{reading_bits}
use Rattle.code.proofs.read.reading_bits.Goals as goal

pub returns-in-Done : goal.returns-in-Done
unfolding reading_bits
returns-in-Done c = sym (ap reading_bits c.in-Done.is)

pub returns-in-Tail : goal.returns-in-Tail
unfolding reading_bits
returns-in-Tail c = sym (ap reading_bits c.in-Tail.is)

pub returns-in-Refused : goal.returns-in-Refused
unfolding reading_bits
returns-in-Refused c = sym (ap reading_bits c.in-Refused.is)
