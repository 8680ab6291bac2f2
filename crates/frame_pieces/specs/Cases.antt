-- Cases of 01 on the tileset as it is written: quantisers, and how many tiles.
-- (01 is this project's scope document, 02 its change requests, 001 is MS-RDPRFX: README, "What 01 is".)
use Rattle.std.specs.Prelude.{◌≡◌, [], ◌∷◌}
use Rattle.quants.specs.Quants.{quant_bytes}
use Rattle.frame_pieces.specs.Parts.{tiles_no}

pub record Cases : Type 0 where
  -- "Bytes 66 66 77 88 98: 6 6 6 6 7 7 8 8 8 9"
  pub set : quant_bytes (6 ∷ 6 ∷ 6 ∷ 6 ∷ 7 ∷ 7 ∷ 8 ∷ 8 ∷ 8 ∷ 9 ∷ []) ≡ 0x66 ∷ 0x66 ∷ 0x77 ∷ 0x88 ∷ 0x98 ∷ []
  -- the largest channel has 2,048 tiles; 65 pixels take a second one
  pub most : tiles_no 4096 2048 ≡ 2048
  pub edge : tiles_no 65 64 ≡ 2
