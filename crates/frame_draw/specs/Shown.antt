-- The tiles of a frame drawn one after the other, and the same said of a pixel: document 01, "A picture word is changed exactly if
-- it lies in the channel, in some rectangle of the region, and in some listed tile; the last such tile in message order decides".
-- words gives the word of each place of a tile.
-- (01 is this project's scope document, 02 its change requests, 001 is MS-RDPRFX: README, "What 01 is".)
use Rattle.std.specs.Prelude.{ℕ, ◌+◌, ◌*◌, ◌/◌, ◌%◌, List, [], ◌∷◌, Bool, false, eqb}
use Rattle.whole.specs.Row.{◌!◌⨾◌, ◌⇒◌∣◌}
use Rattle.frame_layout.specs.Bytes.{Tile}
use Rattle.frame_draw.specs.Draw.{tile_drawn}

-- the picture after the listed tiles, in message order
unfoldable pub tiles_drawn : List ℕ → ℕ → (Tile → ℕ → ℕ) → ℕ → ℕ → List Tile → List ℕ → List ℕ
tiles_drawn rects n words w h [] pic = pic
tiles_drawn rects n words w h (t ∷ ts) pic = tiles_drawn rects n words w h ts (tile_drawn rects n (words t) w h t.x t.y pic)

-- "in some listed tile": 64 x 64 places from 64 x, 64 y on
unfoldable pub in_tile : Tile → ℕ → ℕ → Bool
in_tile t px py = eqb (px / 64) t.x ! false ⨾ eqb (py / 64) t.y

-- a listed tile, or none
pub data Found : Type 0 where
  found : Tile → Found
  none : Found

unfoldable pub or_else : Found → Found → Found
or_else (found t) other = found t
or_else none other = other

-- "the last such tile in message order"
unfoldable pub last_tile : List Tile → ℕ → ℕ → Found
last_tile [] px py = none
last_tile (t ∷ ts) px py = or_else (last_tile ts px py) (in_tile t px py ⇒ found t ∣ none)

-- its word of the pixel, or the old one where there is none
unfoldable pub word_in : (Tile → ℕ → ℕ) → ℕ → ℕ → Found → ℕ → ℕ
word_in words px py (found t) old = words t (64 * (py % 64) + px % 64)
word_in words px py none old = old
