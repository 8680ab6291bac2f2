-- A session that is opened, and a collector that is reset.
use Rattle.replay.proofs.records.fresh.Goals as goal

pub returns : goal.returns
returns c = rw (c.reset.ensures, c.«open».ensures)
