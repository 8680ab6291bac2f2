-- One tile: names for what layout's definitions say, its three components by number, and what a passed check gives.
use Rattle.std.specs.Prelude.{ℕ, zero, suc, ◌+◌, ◌*◌, ◌≤◌, ◌<◌, ◌≡◌, List, length, get_or, ltb, eqb}
use Rattle.wire.specs.Le.{le16}
use Rattle.whole.specs.Row.{◌!◌⨾◌, ◌⇒◌∣◌, ◌⨟◌}
use Rattle.frame_layout.specs.Bytes.{Tile}
use Rattle.frame_layout.specs.Reader.{least_head, body_judge, size_at, tile_at}

-- the last of these: "place (8)", a tile "that starts outside the channel"
unfoldable pub place_judge : ℕ → ℕ → ℕ → ℕ → ℕ
place_judge w h x y =
    ltb (64 * x) w ! 8 ⨾
    ltb (64 * y) h ! 8 ⨾
    0

-- "blockLen against its lengths (4), indices (7), place (8)" of the tile at a place of the tileset's data
unfoldable pub tile_fields : ℕ → ℕ → ℕ → List ℕ → ℕ → ℕ
tile_fields w h q d at =
    body_judge w h q (size_at d at) (le16 d (at + 13)) (le16 d (at + 15)) (le16 d (at + 17)) (get_or d (at + 6) 0) (get_or d (at + 7) 0) (get_or d (at + 8) 0)
    (le16 d (at + 9)) (le16 d (at + 11))

-- the first fault of a tile before its codes
unfoldable pub tile_front : ℕ → ℕ → ℕ → List ℕ → ℕ → ℕ
tile_front w h q d at = least_head 0xCAC3 19 d at ⨟ tile_fields w h q d at

-- "then Y, Cb, Cr": a tile's codes and quantiser indices by number; "each component is handed on as that part of the message itself, not copied"
unfoldable pub code_part : Tile → ℕ → List ℕ
code_part t zero = t.ys
code_part t (suc zero) = t.cbs
code_part t (suc (suc k)) = t.crs

unfoldable pub index_of : Tile → ℕ → ℕ
index_of t zero = t.qy
index_of t (suc zero) = t.qcb
index_of t (suc (suc k)) = t.qcr

-- where code k starts
unfoldable pub part_start : List ℕ → ℕ → ℕ → ℕ
part_start d at k =
    eqb k 0 ⇒ at + 19 ∣
    eqb k 1 ⇒ at + 19 + le16 d (at + 13) ∣
    at + 19 + le16 d (at + 13) + le16 d (at + 15)

-- what a tile has that was found whole: its codes lie in it
pub record TileWhole (d : List ℕ) (at : ℕ) : Type 0 where
  pub there : at + size_at d at ≤ length d
  pub lengths : size_at d at ≡ 19 + le16 d (at + 13) + le16 d (at + 15) + le16 d (at + 17)

-- and one that was checked up to its codes, with q quantiser sets
pub record TileGood (q : ℕ) (d : List ℕ) (at : ℕ) : Type 0 where
  pub whole : TileWhole d at
  pub y_index : (tile_at d at).qy < q
  pub cb_index : (tile_at d at).qcb < q
  pub cr_index : (tile_at d at).qcr < q

-- and one whose codes were checked too, by a judge of a quantiser set's number and a code
pub record TileSound (judge : ℕ → List ℕ → ℕ) (q : ℕ) (d : List ℕ) (at : ℕ) : Type 0 where
  pub good : TileGood q d at
  pub y : 0 ≡ judge (tile_at d at).qy (tile_at d at).ys
  pub cb : 0 ≡ judge (tile_at d at).qcb (tile_at d at).cbs
  pub cr : 0 ≡ judge (tile_at d at).qcr (tile_at d at).crs
