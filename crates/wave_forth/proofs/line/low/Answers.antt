-- `halves::low` meets its contract.
use mir.Syntax.{w32}
use lib.IntN.{◌+ℤ◌}
use Rattle.whole.specs.Calc.{Calc, fits, val, arg, add, half}
use Rattle.wave_forth.proofs.line.low.Goals as goal
use Rattle.wave_forth.proofs.line.low.Goals.{Start}

abbrev sum : (c : Start) → Calc w32 (c.args.g +ℤ c.args.h)
sum c = add (arg w32 c.requires.1 tt) (arg w32 c.requires.2 tt) tt

pub overflow_add-result : goal.overflow_add-result
overflow_add-result c = fits (sum (goal.at.overflow_add-result c).Start)

pub overflow_add-result-2 : goal.overflow_add-result-2
overflow_add-result-2 c = fits (add (arg w32 c.requires.0 tt) (half (sum (goal.at.overflow_add-result-2 c).Start) tt) tt)

pub returns : goal.returns
returns c = val (add (arg w32 c.requires.0 tt) (half (sum (goal.at.returns c).Start) tt) tt)
