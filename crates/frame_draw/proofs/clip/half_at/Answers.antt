-- `clip::half_at` meets its contract: 2^31 more, which is not below 0.
use lib.IntN.{ℤ}
use mir.Val.{SFits}
use mir.Syntax.{w32}
use Rattle.whole.specs.Calc.{fits}
use Rattle.whole.specs.Tab.{at}
use Rattle.frame_draw.specs.laws.Clip.{widened, raised, half_counts, half_read}
use Rattle.frame_draw.proofs.clip.half_at.Goals as goal
use Rattle.frame_draw.proofs.clip.half_at.Goals.{After-result-1}

-- the number that is read
abbrev number : After-result-1 → ℤ
number c = at c.args.list.now c.args.i

abbrev small : (c : After-result-1) → SFits w32 (number c)
small c = record { sfits = c.result-1.given }

pub overflow_cast-result : goal.overflow_cast-result
overflow_cast-result c = fits (widened (number (goal.at.overflow_cast-result c).After-result-1) (small (goal.at.overflow_cast-result c).After-result-1))

pub overflow_add-result : goal.overflow_add-result
overflow_add-result c = fits (raised (number (goal.at.overflow_add-result c).After-result-1) (small (goal.at.overflow_add-result c).After-result-1))

pub overflow_cast-result-2 : goal.overflow_cast-result-2
overflow_cast-result-2 c = half_counts (number (goal.at.overflow_cast-result-2 c).After-result-1) (small (goal.at.overflow_cast-result-2 c).After-result-1)

pub returns : goal.returns
returns c = half_read (number (goal.at.returns c).After-result-1) (small (goal.at.returns c).After-result-1)
