-- Cases of 01 on the tileset as it is written, computed by the definitions.
-- (01 is this project's scope document, 02 its change requests, 001 is MS-RDPRFX: README, "What 01 is".)
use Rattle.std.specs.Prelude.{refl}
use Rattle.quants.specs.Quants.{quant_bytes}
use Rattle.frame_pieces.specs.Parts.{cols_of, tiles_no}
use Rattle.frame_pieces.specs.Cases.{Cases}

pub cases : Cases
unfolding quant_bytes cols_of tiles_no
cases = record { set = refl; most = refl; edge = refl }
