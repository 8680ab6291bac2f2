-- `words_row` meets its contract. Invariant: the first x words are made.
use Rattle.std.specs.Prelude.{map}
use Rattle.tile_back.specs.laws.Word.{Made}
use Rattle.tile_back.proofs.words_row.Given as goal

abbrev pub invariant-loop-x : goal.invariant-loop-x
invariant-loop-x g l = let w = g.W.GlassWord in Made w.GLASS l.ys l.cbs l.crs l.y l.x (map w.number l.row)
