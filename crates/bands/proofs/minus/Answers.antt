-- One `Calc`: the difference of two bounded numbers fits 32 bits.
use mir.Syntax.{w32}
use Rattle.whole.specs.Calc.{fits, val, arg, sub}
use Rattle.bands.proofs.minus.Goals as goal

pub overflow_sub-result : goal.overflow_sub-result
overflow_sub-result c = fits (sub (arg w32 c.requires.0 tt) (arg w32 c.requires.1 tt) tt)

pub returns : goal.returns
returns c = val (sub (arg w32 c.requires.0 tt) (arg w32 c.requires.1 tt) tt)
