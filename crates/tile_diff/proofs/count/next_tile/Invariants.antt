-- `tile_diff::count::next_tile` meets its contract. Invariant: from tile k on the first is the one that is looked for.
use Rattle.std.specs.Prelude.{◌≡◌, ◌-◌}
use Rattle.tile_diff.specs.Counts.{next_of, next_tile}
use Rattle.tile_diff.proofs.count.next_tile.Given as goal

abbrev pub invariant-loop-k : goal.invariant-loop-k
invariant-loop-k l = next_of l.counts l.columns (l.all - l.k) l.k ≡ next_tile l.counts l.width l.height l.from
