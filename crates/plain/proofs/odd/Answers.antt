-- `odd` meets its contract: every step fits, along a row and down a column. Assumes nothing.
use mir.Syntax.{w32}
use lib.Dec.{lit≤}
use lib.IntN.{pos, ◌+ℤ◌, ◌*ℤ◌}
use Rattle.whole.specs.Calc.{Calc, arg, lit, add, mul, cut, fits, val}
use Rattle.wave_back.specs.Line.{odd_z, row_avg, col_avg}
use Rattle.plain.specs.laws.Lines.{avg_of}
use Rattle.plain.proofs.odd.Goals as goal
use Rattle.plain.proofs.odd.Goals.{Start}

abbrev twice : (c : Start) → Calc w32 (pos 2 *ℤ c.args.h)
twice c = mul (lit w32 (pos 2) tt) (arg w32 c.requires.0 tt) tt

abbrev sum : (c : Start) → Calc w32 (c.args.x +ℤ c.args.y)
sum c = add (arg w32 c.requires.1 tt) (arg w32 c.requires.2 tt) tt

abbrev along : (c : Start) → Calc w32 (odd_z row_avg c.args.h c.args.x c.args.y)
along c = add (twice c) (cut (sum c) tt) tt

abbrev mid : (c : Start) → Calc w32 (col_avg c.args.x c.args.y)
mid c = add (cut (arg w32 c.requires.1 tt) tt) (cut (arg w32 c.requires.2 tt) tt) tt

abbrev down : (c : Start) → Calc w32 (odd_z col_avg c.args.h c.args.x c.args.y)
down c = add (twice c) (mid c) tt

pub overflow_mul-result : goal.overflow_mul-result
overflow_mul-result c = fits (twice (goal.at.overflow_mul-result c).Start)

pub overflow_add-result : goal.overflow_add-result
overflow_add-result c = fits (sum (goal.at.overflow_add-result c).Start)

pub nonzero_div-result : goal.nonzero_div-result
nonzero_div-result c = (lit≤ tt, fits (cut (sum (goal.at.nonzero_div-result c).Start) tt))

pub overflow_add-result-then-along : goal.overflow_add-result-then-along
overflow_add-result-then-along c = fits (along (goal.at.overflow_add-result-then-along c).Start)

pub returns-then-along : goal.returns-then-along
unfolding avg_of
returns-then-along c = rw c.if-along.true (val (along (goal.at.returns-then-along c).Start))

pub overflow_mul-result-2 : goal.overflow_mul-result-2
overflow_mul-result-2 c = fits (twice (goal.at.overflow_mul-result-2 c).Start)

pub nonzero_div-result-2 : goal.nonzero_div-result-2
nonzero_div-result-2 c = (lit≤ tt, fits (cut (arg w32 c.requires.1 tt) tt))

pub nonzero_div-result-3 : goal.nonzero_div-result-3
nonzero_div-result-3 c = (lit≤ tt, fits (cut (arg w32 c.requires.2 tt) tt))

pub overflow_add-result-2 : goal.overflow_add-result-2
overflow_add-result-2 c = fits (mid (goal.at.overflow_add-result-2 c).Start)

pub overflow_add-result-3 : goal.overflow_add-result-3
overflow_add-result-3 c = fits (down (goal.at.overflow_add-result-3 c).Start)

pub returns : goal.returns
unfolding avg_of
returns c = rw c.if-along.false (val (down (goal.at.returns c).Start))
