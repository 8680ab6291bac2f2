-- `clip::put_number` meets its contract: one store.
use mathlib.Core.Path.{ap}
use lib.ListN.{set}
use Rattle.frame_draw.specs.laws.Clip.{stored}
use Rattle.frame_draw.proofs.clip.put_number.Goals as goal

pub returns : goal.returns
returns c = ap (set c.args.list.now c.args.i) (stored c.args.n c.requires.1)
