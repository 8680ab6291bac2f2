-- `bits::word::zeros_in` meets its contract: a number below 2 ^ 57 has seven leading zeros more in 64 bits than in 57. Assumes nothing.
use native.Mathlib.Omega.{arith}
use lib.Count.{leading_le}
use Rattle.bits.specs.laws.Word.{front_in}
use Rattle.bits.proofs.word.zeros_in.Goals as goal

pub overflow_cast-result : goal.overflow_cast-result
overflow_cast-result c = record { fits = omega (arith, leading_le 64 c.args.w) }

pub overflow_sub-result : goal.overflow_sub-result
overflow_sub-result c = (front_in c.args.w c.requires).0

pub returns : goal.returns
returns c = (front_in c.args.w c.requires).1
