-- A frame as its reader takes it: the first fault, in 01's order, and the tiles. Numbers are 01's; 0 is none.
-- 01, Order: "Frame call: .. the blocks in wire order: head (1), kind (3), blockLen against its fixed or least size (4), whole block present (1),
-- fixed fields (5), counts (6), blockLen against counts (4), then the contents."
-- (01 is this project's scope document, 02 its change requests, 001 is MS-RDPRFX: README, "What 01 is".)
use Rattle.std.specs.Prelude.{ℕ, zero, suc, ◌+◌, ◌*◌, ◌-◌, ◌/◌, ◌%◌, Bool, false, List, [], ◌∷◌, length, get_or, take, drop, ltb, leb, eqb}
use Rattle.wire.specs.Le.{le16, le32}
use Rattle.whole.specs.Row.{◌!◌⨾◌, ◌⨟◌}
use Rattle.frame_layout.specs.Bytes.{Tile}

-- the kind due, the kind there, whether blockLen fits the fixed or least size, blockLen, the bytes there: kind (3), size (4), whole block present (1).
-- 3 is "block type .. not the one due in a frame", 1 "a block .. needs more than is there"
unfoldable pub block_judge : ℕ → ℕ → Bool → ℕ → ℕ → ℕ
block_judge kind is size_good size room =
    eqb is kind ! 3 ⨾
    size_good ! 4 ⨾
    leb size room ! 1 ⨾
    0

-- the size that a block's head says
unfoldable pub size_at : List ℕ → ℕ → ℕ
size_at m at = le32 m (at + 2)

-- the head of 6 bytes (1), and what it says, of a block of fixed size (begin, end)
unfoldable pub fixed_head : ℕ → ℕ → List ℕ → ℕ → ℕ
fixed_head kind size m at =
    leb 6 (length m - at) ! 1 ⨾
    block_judge kind (le16 m at) (eqb (size_at m at) size) (size_at m at) (length m - at)

-- the same of a block of a least size (region, tileset, tile)
unfoldable pub least_head : ℕ → ℕ → List ℕ → ℕ → ℕ
least_head kind least m at =
    leb 6 (length m - at) ! 1 ⨾
    block_judge kind (le16 m at) (leb least (size_at m at)) (size_at m at) (length m - at)

-- "Blocks marked * go on with codecId 1 and channelId: .. 0"
unfoldable pub codec_judge : ℕ → ℕ → ℕ
codec_judge codec channel = eqb codec 1 ! 5 ⨾ eqb channel 0 ! 5 ⨾ 0

unfoldable pub codec_fault : List ℕ → ℕ → ℕ
codec_fault m at = codec_judge (get_or m (at + 6) 0) (get_or m (at + 7) 0)

-- frame begin: "frameIdx 4 (any), numRegions 2 = 1"
unfoldable pub begin_judge : ℕ → ℕ
begin_judge regions = eqb regions 1 ! 5 ⨾ 0

unfoldable pub begin_fault : List ℕ → ℕ → ℕ
begin_fault m at = fixed_head 0xCCC4 14 m at ⨟ codec_fault m at ⨟ begin_judge (le16 m (at + 12))

-- region: "flags 1 (low bit 1)" (5), over 256 rectangles (6), 15 + 8n (4)
unfoldable pub region_judge : ℕ → ℕ → ℕ → ℕ
region_judge flags n size =
    eqb (flags % 2) 1 ! 5 ⨾
    leb n 256 ! 6 ⨾
    eqb size (15 + 8 * n) ! 4 ⨾
    0

-- "A region's type and tilesets fields come last of it (5)"
unfoldable pub last_judge : ℕ → ℕ → ℕ
last_judge type sets = eqb type 0xCAC1 ! 5 ⨾ eqb sets 1 ! 5 ⨾ 0

-- n, the number of rectangles; they stand from place 11 of the block on, 8 bytes each
unfoldable pub rect_count : List ℕ → ℕ → ℕ
rect_count m at = le16 m (at + 9)

unfoldable pub region_fault : List ℕ → ℕ → ℕ
region_fault m at =
    least_head 0xCCC6 15 m at ⨟
    codec_fault m at ⨟
    region_judge (get_or m (at + 8) 0) (rect_count m at) (size_at m at) ⨟
    last_judge (le16 m (at + (11 + 8 * rect_count m at))) (le16 m (at + (13 + 8 * rect_count m at)))

-- "Tileset: lt 1 = 1, flags 3, cct 2 = 1, xft 4 = 1, et 4 as in the context, qt 2 = 1", from the low bit; flags are not judged
unfoldable pub props_good : ℕ → ℕ → Bool
props_good et p =
    eqb (p % 2) 1 ! false ⨾
    eqb (p / 16 % 4) 1 ! false ⨾
    eqb (p / 64 % 16) 1 ! false ⨾
    eqb (p / 1024 % 16) et ! false ⨾
    eqb (p / 16384) 1

-- "subtype CAC2, idx 2 = 0, properties 2, q 1, tileSize 1 = 64, numTiles 2, data size 4": fixed fields in wire order (5), over 2,048 tiles (6), 22 + 5q + data
-- as whole numbers, else 4, "blockLen or tilesDataSize disagrees with the layout"
unfoldable pub set_judge : ℕ → ℕ → ℕ → ℕ → ℕ → ℕ → ℕ → ℕ → ℕ → ℕ
set_judge et size subtype idx props q side n bytes =
    eqb subtype 0xCAC2 ! 5 ⨾
    eqb idx 0 ! 5 ⨾
    props_good et props ! 5 ⨾
    eqb side 64 ! 5 ⨾
    leb n 2048 ! 6 ⨾
    eqb size (22 + 5 * q + bytes) ! 4 ⨾
    0

-- a byte of two quantisers: each 6 to 15 (7)
unfoldable pub halves_fault : ℕ → ℕ
halves_fault b = leb 6 (b % 16) ! 7 ⨾ leb 6 (b / 16) ! 7 ⨾ leb (b / 16) 15 ! 7 ⨾ 0

-- k bytes of quantisers
unfoldable pub quants_fault : List ℕ → ℕ → ℕ → ℕ
quants_fault m zero at = 0
quants_fault m (suc k) at = halves_fault (get_or m at 0) ⨟ quants_fault m k (at + 1)

-- the counts of a tileset
unfoldable pub quant_count : List ℕ → ℕ → ℕ
quant_count m at = get_or m (at + 14) 0

unfoldable pub tile_count : List ℕ → ℕ → ℕ
tile_count m at = le16 m (at + 16)

unfoldable pub data_size : List ℕ → ℕ → ℕ
data_size m at = le32 m (at + 18)

-- the j-th quantiser set of a tileset, five bytes
unfoldable pub set_at : List ℕ → ℕ → ℕ → List ℕ
set_at m at j = take 5 (drop (at + (22 + 5 * j)) m)

-- the tileset's own data
unfoldable pub data_of : List ℕ → ℕ → List ℕ
data_of m at = take (data_size m at) (drop (at + (22 + 5 * quant_count m at)) m)

-- ---- tiles: d is the tileset's own data

-- "blockLen against its lengths (4), indices (7), place (8)": 7 "an index not below numQuant", 8 "64 x xIdx at least width, or 64 x yIdx at least height"
unfoldable pub body_judge : ℕ → ℕ → ℕ → ℕ → ℕ → ℕ → ℕ → ℕ → ℕ → ℕ → ℕ → ℕ → ℕ
body_judge w h q size ly lcb lcr qy qcb qcr x y =
    eqb size (19 + ly + lcb + lcr) ! 4 ⨾
    ltb qy q ! 7 ⨾
    ltb qcb q ! 7 ⨾
    ltb qcr q ! 7 ⨾
    ltb (64 * x) w ! 8 ⨾
    ltb (64 * y) h ! 8 ⨾
    0

-- the tile at a place, as the reader takes it
unfoldable pub tile_at : List ℕ → ℕ → Tile
tile_at d at = record {
  qy = get_or d (at + 6) 0;
  qcb = get_or d (at + 7) 0;
  qcr = get_or d (at + 8) 0;
  x = le16 d (at + 9);
  y = le16 d (at + 11);
  ys = take (le16 d (at + 13)) (drop (at + 19) d);
  cbs = take (le16 d (at + 15)) (drop (at + 19 + le16 d (at + 13)) d);
  crs = take (le16 d (at + 17)) (drop (at + 19 + le16 d (at + 13) + le16 d (at + 15)) d);
}

-- "then Y, Cb, Cr": the codes of a tile, by a judge of a quantiser set's number and a code
unfoldable pub codes_fault : (ℕ → List ℕ → ℕ) → Tile → ℕ
codes_fault judge t = judge t.qy t.ys ⨟ judge t.qcb t.cbs ⨟ judge t.qcr t.crs

-- "then each tile: head, kind, least size 19 and presence in the same order, where only the tileset's own data counts as there"
unfoldable pub tile_fault : (ℕ → List ℕ → ℕ) → ℕ → ℕ → ℕ → List ℕ → ℕ → ℕ
tile_fault judge w h q d at =
    least_head 0xCAC3 19 d at ⨟
    body_judge w h q (size_at d at) (le16 d (at + 13)) (le16 d (at + 15)) (le16 d (at + 17)) (get_or d (at + 6) 0) (get_or d (at + 7) 0) (get_or d (at + 8) 0)
    (le16 d (at + 9)) (le16 d (at + 11)) ⨟
    codes_fault judge (tile_at d at)

-- n tiles from a place on; "data left after the last tile is 4"
unfoldable pub tiles_fault : (ℕ → List ℕ → ℕ) → ℕ → ℕ → ℕ → List ℕ → ℕ → ℕ → ℕ
tiles_fault judge w h q d zero at = eqb at (length d) ! 4 ⨾ 0
tiles_fault judge w h q d (suc n) at = tile_fault judge w h q d at ⨟ tiles_fault judge w h q d n (at + size_at d at)

-- the tiles themselves, in message order: what is drawn is a fold over this list
unfoldable pub tiles_in : List ℕ → ℕ → ℕ → List Tile
tiles_in d zero at = []
tiles_in d (suc n) at = tile_at d at ∷ tiles_in d n (at + size_at d at)

-- ---- the frame; comp judges a component: mode, quantiser set, code

-- the tileset: its head, its fields, "quantisers (7), then each tile"
unfoldable pub set_fault : (ℕ → List ℕ → List ℕ → ℕ) → ℕ → ℕ → ℕ → List ℕ → ℕ → ℕ
set_fault comp w h et m at =
    least_head 0xCCC7 22 m at ⨟
    codec_fault m at ⨟
    set_judge et (size_at m at) (le16 m (at + 8)) (le16 m (at + 10)) (le16 m (at + 12)) (quant_count m at) (get_or m (at + 15) 0) (tile_count m at) (data_size m at) ⨟
    quants_fault m (5 * quant_count m at) (at + 22) ⨟
    tiles_fault (λ j code. comp et (set_at m at j) code) w h (quant_count m at) (data_of m at) (tile_count m at) 0

-- "frame end*, CCC5, 8", "and nothing after": 4 where "bytes follow the last block"
unfoldable pub end_fault : List ℕ → ℕ → ℕ
end_fault m at = fixed_head 0xCCC5 8 m at ⨟ codec_fault m at ⨟ (eqb (length m) (at + 8) ! 4 ⨾ 0)

-- the places of the blocks
unfoldable pub set_place : List ℕ → ℕ
set_place m = 14 + size_at m 14

unfoldable pub end_place : List ℕ → ℕ
end_place m = set_place m + size_at m (set_place m)

-- "A frame is begin, region, tileset, end, and nothing after."
unfoldable pub frame_fault : (ℕ → List ℕ → List ℕ → ℕ) → ℕ → ℕ → ℕ → List ℕ → ℕ
frame_fault comp w h et m =
    begin_fault m 0 ⨟
    region_fault m 14 ⨟
    set_fault comp w h et m (set_place m) ⨟
    end_fault m (end_place m)

-- the tiles of a frame, in message order
unfoldable pub frame_tiles : List ℕ → List Tile
frame_tiles m = tiles_in (data_of m (set_place m)) (tile_count m (set_place m)) 0
