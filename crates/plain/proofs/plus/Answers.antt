-- `plus` meets its contract: it fits. Assumes nothing.
use mir.Syntax.{w32}
use Rattle.whole.specs.Calc.{fits, val, arg, add}
use Rattle.plain.proofs.plus.Goals as goal

pub overflow_add-result : goal.overflow_add-result
overflow_add-result c = fits (add (arg w32 c.requires.0 tt) (arg w32 c.requires.1 tt) tt)

pub returns : goal.returns
returns c = val (add (arg w32 c.requires.0 tt) (arg w32 c.requires.1 tt) tt)
