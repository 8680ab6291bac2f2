-- `colour::weigh` meets its contract: each step of the sum is a `Calc`, which fits and has the value that is promised.
-- Assumes nothing.
use native.Mathlib.Omega.{arith}
use mir.Syntax.{w32}
use lib.IntN.{pos, ◌*ℤ◌}
use Rattle.whole.specs.Calc.{Calc, fits, val, arg, told, add, mul, shr}
use Rattle.colour.specs.laws.Steps.{weighed}
use Rattle.colour.specs.laws.Near.{byte_near}
use Rattle.colour.proofs.weigh.Goals as goal
use Rattle.colour.proofs.weigh.Goals.{After-byte, After-byte-2, After-byte-3}

abbrev red : (c : After-byte) → Calc w32 (c.args.j *ℤ pos c.args.r)
red c = mul (arg w32 c.requires.0 tt) (told w32 c.byte.ensures (byte_near _ (omega arith)) tt) tt

abbrev green : (c : After-byte-2) → Calc w32 (c.args.k *ℤ pos c.args.g)
green c = mul (arg w32 c.requires.1 tt) (told w32 c.byte-2.ensures (byte_near _ (omega arith)) tt) tt

abbrev blue : (c : After-byte-3) → Calc w32 (c.args.l *ℤ pos c.args.b)
blue c = mul (arg w32 c.requires.2 tt) (told w32 c.byte-3.ensures (byte_near _ (omega arith)) tt) tt

pub overflow_mul-result : goal.overflow_mul-result
overflow_mul-result c = fits (red (goal.at.overflow_mul-result c).After-byte)

pub overflow_mul-result-2 : goal.overflow_mul-result-2
overflow_mul-result-2 c = fits (green (goal.at.overflow_mul-result-2 c).After-byte-2)

pub overflow_add-result : goal.overflow_add-result
overflow_add-result c = fits (add (red (goal.at.overflow_add-result c).After-byte) (green (goal.at.overflow_add-result c).After-byte-2) tt)

pub overflow_mul-result-3 : goal.overflow_mul-result-3
overflow_mul-result-3 c = fits (blue (goal.at.overflow_mul-result-3 c).After-byte-3)

pub overflow_add-result-2 : goal.overflow_add-result-2
overflow_add-result-2 c = fits (add (add (red (goal.at.overflow_add-result-2 c).After-byte) (green (goal.at.overflow_add-result-2 c).After-byte-2) tt)
    (blue (goal.at.overflow_add-result-2 c).After-byte-3) tt)

pub returns : goal.returns
unfolding weighed
returns c = val (shr 2048 (add (add (red (goal.at.returns c).After-byte) (green (goal.at.returns c).After-byte-2) tt) (blue (goal.at.returns c).After-byte-3)
    tt) tt)
