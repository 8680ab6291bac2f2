-- `clip::put_half` meets its contract: one store, of a number that fits.
use mathlib.Core.Path.{ap}
use lib.ListN.{set}
use Rattle.whole.specs.Calc.{fits}
use Rattle.frame_draw.specs.laws.Clip.{lowered, half_goes, half_stored}
use Rattle.frame_draw.proofs.clip.put_half.Goals as goal

pub overflow_sub-list : goal.overflow_sub-list
overflow_sub-list c = fits (lowered _ c.requires.1)

pub overflow_cast-list-2 : goal.overflow_cast-list-2
overflow_cast-list-2 c = half_goes _ c.requires.1

pub returns : goal.returns
returns c = ap (set c.args.list.now c.args.i) (half_stored c.args.n c.requires.1)
