-- `green` meets its contract: every step fits 64 bits. Assumes nothing.
use mathlib.Core.Path.{◌∙◌, ap}
use mir.Syntax.{w64}
use lib.IntN.{pos, ◌+ℤ◌, ◌-ℤ◌, ◌*ℤ◌}
use Rattle.whole.specs.Calc.{Calc, fits, val, lit, add, sub, shr}
use Rattle.colour.specs.Colour.{clamp_byte, scaled, green_of}
use Rattle.plain.proofs.Steps.{wide, raised, base, times}
use Rattle.plain.proofs.green.Goals as goal
use Rattle.plain.proofs.green.Goals.{Start}

abbrev one : (c : Start) → Calc w64 (scaled c.args.y -ℤ pos 22527 *ℤ c.args.cb)
one c = sub (base c.requires.0) (times 22527 c.requires.1 tt tt) tt

abbrev rlgr3 : (c : Start) → Calc w64 (scaled c.args.y -ℤ pos 22527 *ℤ c.args.cb -ℤ pos 46819 *ℤ c.args.cr)
rlgr3 c = sub (one c) (times 46819 c.requires.2 tt tt) tt

abbrev half : (c : Start) → Calc w64 (scaled c.args.y -ℤ pos 22527 *ℤ c.args.cb -ℤ pos 46819 *ℤ c.args.cr +ℤ pos 1048576)
half c = add (rlgr3 c) (lit w64 (pos 1048576) tt) tt

pub overflow_cast-y : goal.overflow_cast-y
overflow_cast-y c = fits (wide c.requires.0)

pub overflow_add-y : goal.overflow_add-y
overflow_add-y c = fits (raised c.requires.0)

pub overflow_mul-y : goal.overflow_mul-y
overflow_mul-y c = fits (base c.requires.0)

pub overflow_cast-cb : goal.overflow_cast-cb
overflow_cast-cb c = fits (wide c.requires.1)

pub overflow_mul-cb : goal.overflow_mul-cb
overflow_mul-cb c = fits (times 22527 c.requires.1 tt tt)

pub overflow_sub-y : goal.overflow_sub-y
overflow_sub-y c = fits (one (goal.at.overflow_sub-y c).Start)

pub overflow_cast-cr : goal.overflow_cast-cr
overflow_cast-cr c = fits (wide c.requires.2)

pub overflow_mul-cr : goal.overflow_mul-cr
overflow_mul-cr c = fits (times 46819 c.requires.2 tt tt)

pub overflow_sub-y-2 : goal.overflow_sub-y-2
overflow_sub-y-2 c = fits (rlgr3 (goal.at.overflow_sub-y-2 c).Start)

pub overflow_add-y-2 : goal.overflow_add-y-2
overflow_add-y-2 c = fits (half (goal.at.overflow_add-y-2 c).Start)

pub returns : goal.returns
unfolding green_of
returns c = c.clamp.ensures ∙ ap clamp_byte (val (shr 2097152 (half (goal.at.returns c).Start) tt))
