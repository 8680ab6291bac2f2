-- `tile_diff::count::count_row` meets its contract. Invariant: the first x columns are counted.
use Rattle.std.specs.Prelude.{◌≡◌}
use Rattle.tile_diff.specs.Tiles.{words_of}
use Rattle.tile_diff.specs.Counts.{columns_counted}
use Rattle.tile_diff.proofs.count.count_row.Given as goal

abbrev pub invariant-loop-x : goal.invariant-loop-x
invariant-loop-x l = l.counts ≡ columns_counted (words_of l.a) (words_of l.b) l.width l.y l.x l.initial.counts
