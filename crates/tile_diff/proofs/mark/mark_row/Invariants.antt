-- `tile_diff::mark::mark_row` meets its contract. Invariant: the first x words are made.
use Rattle.std.specs.Prelude.{◌≡◌}
use Rattle.tile_diff.specs.Tiles.{words_of}
use Rattle.tile_diff.specs.Mark.{columns_marked}
use Rattle.tile_diff.proofs.mark.mark_row.Given as goal

abbrev pub invariant-loop-x : goal.invariant-loop-x
invariant-loop-x l = l.out ≡ columns_marked (words_of l.row) l.width l.height l.y l.counts l.x l.initial.out
