-- Below 0 the place is 0; else the number's own.
use mathlib.Core.Path.{sym, ap}
use native.Mathlib.Omega.{arith}
use Rattle.code.specs.laws.Fold.{negative, positive}
use Rattle.sample.specs.Compare.{place_of}
use Rattle.sample.proofs.stages.place_of.Goals as goal

pub returns-then-x-lt0 : goal.returns-then-x-lt0
unfolding place_of
returns-then-x-lt0 c = sym (ap place_of (negative c.args.x c.ranges.x c.if-x-lt0.true).is)

pub overflow_cast-result : goal.overflow_cast-result
overflow_cast-result c =
    let w = positive c.args.x c.ranges.x c.if-x-lt0.false in
    let s = rw w.1 at c.ranges.x in rw w.2 (tt, omega (arith, s.sfits))

pub returns : goal.returns
unfolding place_of
returns c = let w = positive c.args.x c.ranges.x c.if-x-lt0.false in rw w.2 (sym (ap place_of w.1))
