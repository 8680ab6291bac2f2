-- `paint::paint_tile` meets its contract: row by row, each drawn from its mask or missed. Invariant: `Painting`, of the words' numbers.
use Rattle.std.specs.Prelude.{map}
use Rattle.tile_back.specs.Word.{word_at}
use Rattle.frame_draw.specs.laws.Paint.{Painting}
use Rattle.frame_draw.proofs.paint.paint_tile.Given as goal

abbrev pub invariant-loop-y : goal.invariant-loop-y
invariant-loop-y g l =
    let w = g.W.GlassWord in
    Painting l.rects l.n (word_at w.GLASS l.ys l.cbs l.crs) l.w l.h l.tx l.ty (map w.number l.initial.picture) l.y (map w.number l.picture)
