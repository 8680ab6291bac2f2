-- Small cases of request Seven, computed by the definitions.
-- Assumes nothing.
use Rattle.std.specs.Prelude.{refl}
use Rattle.whole.specs.Row.{◌!◌⨾◌, ◌⇒◌∣◌}
use Rattle.wire.specs.Le.{le16}
use Rattle.session.specs.Header.{size_good, tiles_over}
use Rattle.tile_diff.specs.Tiles.{not_same, how_many, differs_at, differs, lines_of, listed}
use Rattle.tile_diff.specs.Pic.{pic_of, is_whole, sizes_judge, verdict_of}
use Rattle.tile_diff.specs.Cases.{Cases}

pub cases : Cases
unfolding tiles_over not_same how_many differs_at differs lines_of listed pic_of is_whole sizes_judge verdict_of size_good le16 ◌!◌⨾◌ ◌⇒◌∣◌
cases =
    record
    { top_left = refl; column = refl; next_column = refl; next_row = refl; bad_first = refl; too_long = refl; no-width = refl; size = refl; tiles = refl }
