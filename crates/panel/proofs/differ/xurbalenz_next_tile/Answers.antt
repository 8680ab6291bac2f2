-- The tile that is told is that of `tile_diff`'s own call.
use Rattle.panel.specs.laws.Differ.{next_tile_call}
use Rattle.panel.proofs.differ.xurbalenz_next_tile.Goals as goal

pub returns : goal.returns
returns c =
    let a = c.args in
    next_tile_call a.width a.height a.counts.now a.from c.found_from-f.result c.found_from-f.ensures
