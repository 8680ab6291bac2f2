-- `halves::high` meets its contract.
use mir.Syntax.{w32}
use lib.IntN.{◌+ℤ◌}
use Rattle.whole.specs.Calc.{Calc, fits, val, arg, add, sub, half}
use Rattle.wave_forth.proofs.line.high.Goals as goal
use Rattle.wave_forth.proofs.line.high.Goals.{Start}

abbrev sum : (c : Start) → Calc w32 (c.args.e +ℤ c.args.f)
sum c = add (arg w32 c.requires.1 tt) (arg w32 c.requires.2 tt) tt

pub overflow_add-result : goal.overflow_add-result
overflow_add-result c = fits (sum (goal.at.overflow_add-result c).Start)

pub overflow_sub-result : goal.overflow_sub-result
overflow_sub-result c = fits (sub (arg w32 c.requires.0 tt) (half (sum (goal.at.overflow_sub-result c).Start) tt) tt)

pub returns : goal.returns
returns c = val (half (sub (arg w32 c.requires.0 tt) (half (sum (goal.at.returns c).Start) tt) tt) tt)
