-- `colour::split` meets its contract: the high part is the floor over 65,536, the low part what it leaves (`parts_are`).
-- Assumes nothing.
use mir.Syntax.{w32}
use lib.IntN.{pos, ◌-ℤ◌, ◌*ℤ◌}
use lib.Signed.{shr_z}
use Rattle.whole.specs.Calc.{Calc, fits, val, arg, lit, sub, mul, floor}
use Rattle.colour.specs.laws.Step.{parts_are}
use Rattle.colour.proofs.split.Goals as goal
use Rattle.colour.proofs.split.Goals.{Start}

abbrev high : (c : Start) → Calc w32 (shr_z c.args.v 65536)
high c = floor 65536 (arg w32 c.requires tt) tt tt

abbrev whole : (c : Start) → Calc w32 (shr_z c.args.v 65536 *ℤ pos 65536)
whole c = mul (high c) (lit w32 (pos 65536) tt) tt

abbrev low : (c : Start) → Calc w32 (c.args.v -ℤ shr_z c.args.v 65536 *ℤ pos 65536)
low c = sub (arg w32 c.requires tt) (whole c) tt

pub overflow_mul-result : goal.overflow_mul-result
overflow_mul-result c = fits (whole (goal.at.overflow_mul-result c).Start)

pub overflow_sub-result : goal.overflow_sub-result
overflow_sub-result c = fits (low (goal.at.overflow_sub-result c).Start)

pub returns : goal.returns
returns c = parts_are _ c.args.v c.requires (val (high (goal.at.returns c).Start)) (val (low (goal.at.returns c).Start))
