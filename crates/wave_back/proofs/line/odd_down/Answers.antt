-- `line::odd_down` meets its contract.
use mir.Syntax.{w32}
use lib.Dec.{lit≤}
use lib.IntN.{pos}
use Rattle.whole.specs.Calc.{Calc, arg, lit, add, mul, cut, fits, val}
use Rattle.wave_back.specs.Line.{odd_z, col_avg}
use Rattle.wave_back.proofs.line.odd_down.Goals as goal
use Rattle.wave_back.proofs.line.odd_down.Goals.{Start}

abbrev mid : (c : Start) → Calc w32 (col_avg c.args.x c.args.y)
mid c = add (cut (arg w32 c.requires.1 tt) tt) (cut (arg w32 c.requires.2 tt) tt) tt

abbrev whole : (c : Start) → Calc w32 (odd_z col_avg c.args.h c.args.x c.args.y)
whole c = add (mul (lit w32 (pos 2) tt) (arg w32 c.requires.0 tt) tt) (mid c) tt

pub overflow_mul-result : goal.overflow_mul-result
overflow_mul-result c = fits (mul (lit w32 (pos 2) tt) (arg w32 c.requires.0 tt) tt)

pub nonzero_div-result : goal.nonzero_div-result
nonzero_div-result c = (lit≤ tt, fits (cut (arg w32 c.requires.1 tt) tt))

pub nonzero_div-result-2 : goal.nonzero_div-result-2
nonzero_div-result-2 c = (lit≤ tt, fits (cut (arg w32 c.requires.2 tt) tt))

pub overflow_add-result : goal.overflow_add-result
overflow_add-result c = fits (mid (goal.at.overflow_add-result c).Start)

pub overflow_add-result-2 : goal.overflow_add-result-2
overflow_add-result-2 c = fits (whole (goal.at.overflow_add-result-2 c).Start)

pub returns : goal.returns
returns c = val (whole (goal.at.returns c).Start)
