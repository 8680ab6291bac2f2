-- A session that is opened, and a collector that is reset.

use Rattle.show.proofs.fresh.Goals as goal

pub returns : goal.returns
returns c = rw (c.fresh.ensures, c.reset.ensures, c.«open».ensures)
