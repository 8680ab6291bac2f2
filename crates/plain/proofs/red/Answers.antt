-- `red` meets its contract: every step fits 64 bits. Assumes nothing.
use mathlib.Core.Path.{◌∙◌, ap}
use mir.Syntax.{w64}
use lib.IntN.{pos, ◌+ℤ◌, ◌*ℤ◌}
use Rattle.whole.specs.Calc.{Calc, fits, val, lit, add, shr}
use Rattle.colour.specs.Colour.{clamp_byte, scaled, red_of}
use Rattle.plain.proofs.Steps.{wide, raised, base, times}
use Rattle.plain.proofs.red.Goals as goal
use Rattle.plain.proofs.red.Goals.{Start}

abbrev both : (c : Start) → Calc w64 (scaled c.args.y +ℤ pos 91916 *ℤ c.args.cr)
both c = add (base c.requires.0) (times 91916 c.requires.1 tt tt) tt

abbrev half : (c : Start) → Calc w64 (scaled c.args.y +ℤ pos 91916 *ℤ c.args.cr +ℤ pos 1048576)
half c = add (both c) (lit w64 (pos 1048576) tt) tt

pub overflow_cast-y : goal.overflow_cast-y
overflow_cast-y c = fits (wide c.requires.0)

pub overflow_add-y : goal.overflow_add-y
overflow_add-y c = fits (raised c.requires.0)

pub overflow_mul-y : goal.overflow_mul-y
overflow_mul-y c = fits (base c.requires.0)

pub overflow_cast-cr : goal.overflow_cast-cr
overflow_cast-cr c = fits (wide c.requires.1)

pub overflow_mul-cr : goal.overflow_mul-cr
overflow_mul-cr c = fits (times 91916 c.requires.1 tt tt)

pub overflow_add-y-2 : goal.overflow_add-y-2
overflow_add-y-2 c = fits (both (goal.at.overflow_add-y-2 c).Start)

pub overflow_add-y-3 : goal.overflow_add-y-3
overflow_add-y-3 c = fits (half (goal.at.overflow_add-y-3 c).Start)

pub returns : goal.returns
unfolding red_of
returns c = c.clamp.ensures ∙ ap clamp_byte (val (shr 2097152 (half (goal.at.returns c).Start) tt))
