-- Two `Calc`s: the sum fits, and the shift is the floor over 2^k.
use Prim.Native.Nat.{◌^◌}
use mir.Syntax.{w32}
use Rattle.whole.specs.Calc.{fits, val, arg, add, shr}
use Rattle.bands.proofs.rounded.Goals as goal

pub overflow_add-result : goal.overflow_add-result
overflow_add-result c = fits (add (arg w32 c.requires.0 tt) (arg w32 c.requires.1 tt) tt)

pub returns : goal.returns
returns c = val (shr (2 ^ c.args.k) (add (arg w32 c.requires.0 tt) (arg w32 c.requires.1 tt) tt) tt)
