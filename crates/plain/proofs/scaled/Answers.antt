-- `scaled` meets its contract: a shift by less than 31, and a product that fits. Assumes nothing.
use Prim.Native.Nat.{◌*◌, ◌-◌, ◌%◌, ◌^◌}
use mathlib.Core.Path.{ap}
use native.Mathlib.Omega.{arith}
use lib.IntN.{pos, ◌*ℤ◌}
use mir.Syntax.{w32}
use Rattle.whole.specs.Calc.{Calc, arg, told, mul, fits, val}
use Rattle.bands.specs.laws.Band.{shl_one, shl_small, power_near}
use Rattle.plain.proofs.scaled.Goals as goal
use Rattle.plain.proofs.scaled.Goals.{Start}

abbrev power : (c : Start) → Calc w32 (pos (2 ^ (c.args.q - 1)))
power c =
    told w32 {s = pos ((1 * 2 ^ (c.args.q - 1)) % 4294967296)} (ap pos (shl_one (c.args.q - 1) (omega arith))) (power_near c.args.q c.requires.2) tt

abbrev whole : (c : Start) → Calc w32 (c.args.v *ℤ pos (2 ^ (c.args.q - 1)))
whole c = mul (arg w32 c.requires.0 tt) (power c) tt

pub overflow_cast-result-2 : goal.overflow_cast-result-2
overflow_cast-result-2 c = record { sfits = shl_small (c.args.q - 1) (omega arith) }

pub overflow_mul-result : goal.overflow_mul-result
overflow_mul-result c = fits (whole (goal.at.overflow_mul-result c).Start)

pub returns : goal.returns
returns c = val (whole (goal.at.returns c).Start)
