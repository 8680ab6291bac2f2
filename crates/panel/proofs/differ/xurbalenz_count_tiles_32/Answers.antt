-- The number is that of `tile_diff`'s own call, where the words of this glass are their numbers.
use Rattle.std.proofs.lemmas.List.{map-id}
use Rattle.panel.proofs.differ.xurbalenz_count_tiles_32.Goals as goal

pub returns : goal.returns
returns c = rw c.number_of.ensures (simp map-id at c.count_tiles.ensures)
