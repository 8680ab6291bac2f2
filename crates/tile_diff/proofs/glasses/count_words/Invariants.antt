-- Invariant: the first i places are counted (`places_next`).
use Rattle.std.specs.Prelude.{◌≡◌, map}
use Rattle.tile_diff.specs.Pictures.{places_counted}
use Rattle.tile_diff.proofs.glasses.count_words.Given as goal

abbrev pub invariant-loop-i : goal.invariant-loop-i
invariant-loop-i g l =
    let n = g.W.GlassWord.number in
    l.counts ≡ places_counted (map n l.a) (map n l.b) l.width l.i l.initial.counts
