-- `paint::show` meets its contract: tile by tile, each made ready and drawn. Invariant: `Showing`, of the words' numbers.
use Rattle.std.specs.Prelude.{map}
use Rattle.frame_draw.specs.laws.Paint.{Showing}
use Rattle.frame_draw.proofs.paint.show.Given as goal

abbrev pub invariant-loop-i : goal.invariant-loop-i
invariant-loop-i g l =
    let w = g.W.GlassWord in
    Showing w.GLASS l.p.mode l.m l.p.sp l.p.w l.p.h l.n (map w.number l.initial.picture) l.at l._i (map w.number l.picture) l.ys l.cbs l.crs l.tmp
