-- What the loop keeps.
use Rattle.std.specs.Prelude.{map}
use Rattle.plain.specs.laws.Making.{Making}
use Rattle.plain.proofs.pixels.Given as goal

abbrev pub invariant-loop-i : goal.invariant-loop-i
invariant-loop-i g l = let w = g.W.GlassWord in Making w.GLASS l.ys l.cbs l.crs l.i (map w.number l.words)
