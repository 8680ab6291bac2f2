-- The pieces of a frame while it is written: heads by their lengths, which are 0 until they are filled in.
use Rattle.std.specs.Prelude.{ℕ, ◌+◌, ◌*◌, ◌-◌, ◌/◌, Bool, List, ◌∷◌, ◌++◌, eqb}
use Rattle.wire.specs.Le.{bytes16, bytes32, patch}
use Rattle.frame_layout.specs.Bytes.{Tile, begin_of, region_of, props_of, set_count, end_of}
use Rattle.quants.specs.Quants.{quant_bytes}

-- a tile of our own: Y by the first quantiser set, Cb and Cr by the one whose index is given
unfoldable pub tile_with : ℕ → ℕ → ℕ → List ℕ → List ℕ → List ℕ → Tile
tile_with chroma x y ys cbs crs = record { qy = 0; qcb = chroma; qcr = chroma; x = x; y = y; ys = ys; cbs = cbs; crs = crs }

-- the first 19 bytes of such a tile, by its place and its four lengths
unfoldable pub head_of : ℕ → ℕ → ℕ → ℕ → ℕ → ℕ → ℕ → List ℕ
head_of chroma x y len ly lcb lcr =
    bytes16 0xCAC3 ++ (bytes32 len ++ (0 ∷ chroma ∷ chroma ∷ (bytes16 x ++ (bytes16 y ++ (bytes16 ly ++ (bytes16 lcb ++ bytes16 lcr))))))

-- "lengths are filled in afterwards inside the output": the output with the four lengths of the tile at a place filled in
unfoldable pub filled : List ℕ → ℕ → ℕ → ℕ → ℕ → ℕ → List ℕ
filled o at len ly lcb lcr =
    patch (patch (patch (patch o (at + 2) (bytes32 len)) (at + 13) (bytes16 ly)) (at + 15) (bytes16 lcb)) (at + 17) (bytes16 lcr)

-- the first 22 bytes of a tileset, by mode, number of quantiser sets and of tiles, blockLen and data size
unfoldable pub set_head_of : ℕ → ℕ → ℕ → ℕ → ℕ → List ℕ
set_head_of et sets n len size =
    bytes16 0xCCC7 ++ (bytes32 len ++ (1 ∷ 0 ∷ (bytes16 0xCAC2 ++ (bytes16 0 ++ (bytes16 (props_of et) ++ (sets ∷ 64 ∷ (bytes16 n ++ bytes32 size)))))))

-- all that stands before the tiles, by the tileset's two lengths
unfoldable pub front_with : ℕ → ℕ → ℕ → ℕ → List ℕ → ℕ → ℕ → ℕ → List ℕ
front_with idx w h et q n len size = begin_of idx ++ (region_of w h ++ (set_head_of et (set_count q) n len size ++ quant_bytes q))

-- the output with the frame end put behind the last tile, and the tileset's two lengths filled in: its tiles stand from a place on
unfoldable pub closed : List ℕ → ℕ → ℕ → List ℕ
closed o from at = patch (patch (patch o at end_of) 39 (bytes32 (at - 37))) 55 (bytes32 (at - from))

-- "all tiles row by row": tiles a row (or a column), and tiles
unfoldable pub cols_of : ℕ → ℕ
cols_of w = (w + 63) / 64

unfoldable pub tiles_no : ℕ → ℕ → ℕ
tiles_no w h = cols_of w * cols_of h

-- not 2: "a writer's pixels are not 3 x width x height bytes"
unfoldable pub pixels_good : ℕ → ℕ → ℕ → Bool
pixels_good w h pixels = eqb pixels (3 * (w * h))
