-- Three machine steps within their bounds (`Calc`).
use mir.Syntax.{w32}
use lib.IntN.{pos, ◌+ℤ◌, ◌*ℤ◌}
use Rattle.whole.specs.Calc.{Calc, fits, val, arg, lit, add, sub, mul}
use Rattle.sample.specs.Compare.{number_of}
use Rattle.sample.proofs.stages.number.Goals as goal
use Rattle.sample.proofs.stages.number.Goals.{Start}

abbrev upper : (c : Start) → Calc w32 (pos 256 *ℤ c.args.high)
upper c = mul (lit w32 (pos 256) tt) (arg w32 c.requires.1 tt) tt

abbrev both : (c : Start) → Calc w32 (c.args.low +ℤ pos 256 *ℤ c.args.high)
both c = add (arg w32 c.requires.0 tt) (upper c) tt

pub overflow_mul-result : goal.overflow_mul-result
overflow_mul-result c = fits (upper (goal.at.overflow_mul-result c).Start)

pub overflow_add-result : goal.overflow_add-result
overflow_add-result c = fits (both (goal.at.overflow_add-result c).Start)

pub overflow_sub-result : goal.overflow_sub-result
overflow_sub-result c = fits (sub (both (goal.at.overflow_sub-result c).Start) (lit w32 (pos 32768) tt) tt)

pub returns : goal.returns
unfolding number_of
returns c = val (sub (both (goal.at.returns c).Start) (lit w32 (pos 32768) tt) tt)
