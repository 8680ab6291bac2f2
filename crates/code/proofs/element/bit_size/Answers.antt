-- `code::element::bit_size` meets its contract: a number's bits are 64 less its leading zeros (`size_lead`). Assumes nothing.
use native.Mathlib.Omega.{arith}
use Rattle.code.specs.laws.Steps.{size_lead}
use Rattle.code.proofs.element.bit_size.Goals as goal

pub overflow_cast-result : goal.overflow_cast-result
overflow_cast-result c = record { fits = omega (arith, (size_lead c.args.g (omega (arith, c.ranges.g))).0) }

pub overflow_sub-result : goal.overflow_sub-result
overflow_sub-result c = omega (arith, (size_lead c.args.g (omega (arith, c.ranges.g))).0)

pub returns : goal.returns
returns c = (size_lead c.args.g (omega (arith, c.ranges.g))).1
