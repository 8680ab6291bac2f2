-- `colour::luma` meets its contract: 01's sum is `weigh`'s, and what it gives is small enough that 4,096 can be taken away.
-- Assumes nothing.
use native.Mathlib.Omega.{arith}
use mir.Syntax.{w32}
use lib.IntN.{pos}
use Rattle.whole.specs.laws.Near.{lit_near}
use Rattle.whole.specs.Calc.{Calc, fits, val, told, lit, sub}
use Rattle.colour.specs.Colour.{luma_z}
use Rattle.colour.specs.laws.Steps.{weighed}
use Rattle.colour.specs.laws.Near.{weighed_near}
use Rattle.colour.proofs.luma.Goals as goal
use Rattle.colour.proofs.luma.Goals.{After-weigh}

abbrev y : (c : After-weigh) → Calc w32 (weighed (pos 19595) (pos 38470) (pos 7471) c.args.r c.args.g c.args.b)
y c =
    let a = c.args in
    let near = weighed_near a.r a.g a.b (omega arith) (omega arith) (omega arith) in
    told w32 c.weigh.ensures (near (lit_near (pos 19595)) (lit_near (pos 38470)) (lit_near (pos 7471))) tt

pub overflow_sub-result : goal.overflow_sub-result
overflow_sub-result c = fits (sub (y (goal.at.overflow_sub-result c).After-weigh) (lit w32 (pos 4096) tt) tt)

pub returns : goal.returns
unfolding luma_z weighed
returns c = val (sub (y (goal.at.returns c).After-weigh) (lit w32 (pos 4096) tt) tt)
