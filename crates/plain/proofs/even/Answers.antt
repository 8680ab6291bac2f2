-- `even` meets its contract: every step fits. Assumes nothing.
use mir.Syntax.{w32}
use lib.IntN.{pos}
use Rattle.whole.specs.Calc.{arg, lit, add, sub, half, fits, val}
use Rattle.plain.proofs.even.Goals as goal

pub overflow_add-result : goal.overflow_add-result
overflow_add-result c = fits (add (arg w32 c.requires.1 tt) (arg w32 c.requires.2 tt) tt)

pub overflow_add-result-2 : goal.overflow_add-result-2
overflow_add-result-2 c = fits (add (add (arg w32 c.requires.1 tt) (arg w32 c.requires.2 tt) tt) (lit w32 (pos 1) tt) tt)

pub overflow_sub-result : goal.overflow_sub-result
overflow_sub-result c = fits
    (sub (arg w32 c.requires.0 tt) (half (add (add (arg w32 c.requires.1 tt) (arg w32 c.requires.2 tt) tt) (lit w32 (pos 1) tt) tt) tt) tt)

pub returns : goal.returns
returns c = val (sub (arg w32 c.requires.0 tt) (half (add (add (arg w32 c.requires.1 tt) (arg w32 c.requires.2 tt) tt) (lit w32 (pos 1) tt) tt) tt) tt)
