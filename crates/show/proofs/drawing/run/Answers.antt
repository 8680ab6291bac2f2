-- Turn by turn what is shown is what the pieces so far give (`turn_is`).
use Rattle.show.specs.laws.Play.{turn_is, shown_start, shown_end}
use Rattle.show.proofs.drawing.run.Goals as goal

pub loop-init : goal.loop-init
loop-init g c = shown_start g.W.GlassWord.GLASS _ _ _ _ _ c.begin-t.ensures.1

pub loop-preserved : goal.loop-preserved
loop-preserved g c = turn_is g.W.GlassWord.GLASS _ _ _ _ _ _ _ _ _ _ c.loop.invariant c.next-t.ensures c.draw.ensures

pub returns-then-not-t : goal.returns-then-not-t
returns-then-not-t g c = shown_end g.W.GlassWord.GLASS _ _ _ _ _ _ c.begin-t.ensures.0 c.loop.invariant

pub returns : goal.returns
returns g c = shown_end g.W.GlassWord.GLASS _ _ _ _ _ _ c.begin-t.ensures.0 c.loop.invariant
