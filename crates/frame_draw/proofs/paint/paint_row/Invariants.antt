-- `paint::paint_row` meets its contract: the row's words are put one by one, or its whole part. Invariant: `Putting`, of the words' numbers.
use Rattle.std.specs.Prelude.{map}
use Rattle.frame_draw.specs.laws.Paint.{Putting}
use Rattle.frame_draw.proofs.paint.paint_row.Given as goal

abbrev pub invariant-loop-x : goal.invariant-loop-x
invariant-loop-x g l =
    let n = g.W.GlassWord.number in
    Putting l.mask (map n l.row) l.w l.tx l.py (map n l.initial.picture) l.x (map n l.picture)
