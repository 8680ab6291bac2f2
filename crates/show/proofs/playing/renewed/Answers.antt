-- The definition, with the collector reset, behind the block.
use Rattle.show.specs.Play.{anew_desk}
use Rattle.show.proofs.playing.renewed.Goals as goal

pub returns : goal.returns
unfolding anew_desk
returns c = rw (c.behind.ensures, c.reset.ensures)
