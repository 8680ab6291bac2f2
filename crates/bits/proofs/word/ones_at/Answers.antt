-- `bits::word::ones_at` meets its contract: the ones are the leading zeros of what stands there, complemented (`in_lead`). Assumes nothing.
use Prim.Native.Nat.{◌*◌, ◌-◌, ◌%◌, ◌^◌}
use native.Mathlib.Omega.{arith}
use lib.Count.{leading_le}
use Rattle.bits.specs.laws.Word.{in_lead}
use Rattle.bits.proofs.word.ones_at.Goals as goal

pub overflow_cast-result : goal.overflow_cast-result
overflow_cast-result c =
    let a = c.args in
    record { fits = omega (arith, leading_le 64 (18446744073709551615 - a.w * 2 ^ 7 % 2 ^ 64 * 2 ^ a.at % 2 ^ 64)) }

pub returns : goal.returns
returns c = in_lead c.args.w c.args.at c.requires
