-- The blocks of a frame up to its tiles: names for what layout's definitions say, and what a passed check gives.
use Rattle.std.specs.Prelude.{ℕ, ◌+◌, ◌*◌, ◌-◌, ◌≤◌, ◌≡◌, Bool, List, eqb, leb, length, get_or, take, drop}
use Rattle.wire.specs.Le.{le16}
use Rattle.whole.specs.Row.{◌!◌⨾◌, ◌⇒◌∣◌, ◌⨟◌}
use Rattle.frame_layout.specs.Reader.{block_judge, least_head, codec_fault, set_judge, quants_fault, size_at, rect_count, quant_count, tile_count, data_size}

-- layout's two heads as one: a block of a fixed size, or of a least size
unfoldable pub head_by : Bool → ℕ → ℕ → List ℕ → ℕ → ℕ
head_by fixed kind size m at =
    leb 6 (length m - at) ! 1 ⨾
    block_judge kind (le16 m at) (fixed ⇒ eqb (size_at m at) size ∣ leb size (size_at m at)) (size_at m at) (length m - at)

-- the bytes of a region's rectangles: "n rectangles x, y, w, h of 2"
unfoldable pub rects_of : List ℕ → ℕ → List ℕ
rects_of m at = take (8 * rect_count m at) (drop (at + 11) m)

-- "fixed fields (5), counts (6), blockLen against counts (4)" of a tileset
unfoldable pub set_fields : ℕ → List ℕ → ℕ → ℕ
set_fields et m at =
    set_judge et (size_at m at) (le16 m (at + 8)) (le16 m (at + 10)) (le16 m (at + 12)) (quant_count m at) (get_or m (at + 15) 0) (tile_count m at)
    (data_size m at)

-- the first fault of a tileset before its tiles
unfoldable pub set_front : ℕ → List ℕ → ℕ → ℕ
set_front et m at =
    least_head 0xCCC7 22 m at ⨟
    codec_fault m at ⨟
    set_fields et m at ⨟
    quants_fault m (5 * quant_count m at) (at + 22)

-- what a checked region has
pub record RegionGood (m : List ℕ) (at : ℕ) : Type 0 where
  pub there : at + size_at m at ≤ length m
  pub count : rect_count m at ≤ 256
  pub size : size_at m at ≡ 15 + 8 * rect_count m at

-- what a tileset has whose fields were checked
pub record SetGood (m : List ℕ) (at : ℕ) : Type 0 where
  pub there : at + size_at m at ≤ length m
  pub count : tile_count m at ≤ 2048
  pub size : size_at m at ≡ 22 + 5 * quant_count m at + data_size m at
