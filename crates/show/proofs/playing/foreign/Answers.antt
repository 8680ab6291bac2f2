-- Each return is a row of `foreign_of`.
use Rattle.show.specs.laws.Play.{foreign_not, foreign_is}
use Rattle.show.proofs.playing.foreign.Goals as goal

pub returns-then-c-ne3 : goal.returns-then-c-ne3
returns-then-c-ne3 c = foreign_not _ c.if-c-ne3.true

pub returns : goal.returns
returns c = foreign_is _ c.if-c-ne3.false
