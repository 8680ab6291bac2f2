-- `line::odd_along` meets its contract.
use mir.Syntax.{w32}
use lib.Dec.{lit≤}
use lib.IntN.{pos, ◌+ℤ◌}
use Rattle.whole.specs.Calc.{Calc, arg, lit, add, mul, cut, fits, val}
use Rattle.wave_back.specs.Line.{odd_z, row_avg}
use Rattle.wave_back.proofs.line.odd_along.Goals as goal
use Rattle.wave_back.proofs.line.odd_along.Goals.{Start}

abbrev sum : (c : Start) → Calc w32 (c.args.x +ℤ c.args.y)
sum c = add (arg w32 c.requires.1 tt) (arg w32 c.requires.2 tt) tt

abbrev whole : (c : Start) → Calc w32 (odd_z row_avg c.args.h c.args.x c.args.y)
whole c = add (mul (lit w32 (pos 2) tt) (arg w32 c.requires.0 tt) tt) (cut (sum c) tt) tt

pub overflow_mul-result : goal.overflow_mul-result
overflow_mul-result c = fits (mul (lit w32 (pos 2) tt) (arg w32 c.requires.0 tt) tt)

pub overflow_add-result : goal.overflow_add-result
overflow_add-result c = fits (sum (goal.at.overflow_add-result c).Start)

pub nonzero_div-result : goal.nonzero_div-result
nonzero_div-result c = (lit≤ tt, fits (cut (sum (goal.at.nonzero_div-result c).Start) tt))

pub overflow_add-result-2 : goal.overflow_add-result-2
overflow_add-result-2 c = fits (whole (goal.at.overflow_add-result-2 c).Start)

pub returns : goal.returns
returns c = val (whole (goal.at.returns c).Start)
