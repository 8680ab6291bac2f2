-- One `Calc`: the product of two bounded numbers fits 32 bits.
use mir.Syntax.{w32}
use Rattle.whole.specs.Calc.{fits, val, arg, mul}
use Rattle.bands.proofs.times.Goals as goal

pub overflow_mul-result : goal.overflow_mul-result
overflow_mul-result c = fits (mul (arg w32 c.requires.0 tt) (arg w32 c.requires.1 tt) tt)

pub returns : goal.returns
returns c = val (mul (arg w32 c.requires.0 tt) (arg w32 c.requires.1 tt) tt)
