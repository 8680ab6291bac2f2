-- Drawing a tile into the picture: document 01, "A picture word is changed exactly if it lies in the channel, in some rectangle
-- of the region, and in some listed tile"; its sentence on no rectangles as document 02's request Three mends it.
-- (01 is this project's scope document, 02 its change requests, 001 is MS-RDPRFX: README, "What 01 is".)
use Rattle.std.specs.Prelude.{ℕ, zero, suc, ◌+◌, ◌*◌, ◌/◌, List, Bool, true, false, set, ltb, leb, eqb}
use Rattle.wire.specs.Le.{le16}
use Rattle.whole.specs.Row.{◌!◌⨾◌, ◌⇒◌∣◌}

-- "rectangles x, y, w, h of 2": one holds a pixel; x + w and y + h are whole numbers, never wrapped
unfoldable pub inside : ℕ → ℕ → ℕ → ℕ → ℕ → ℕ → Bool
inside x y w h px py = leb x px ! false ⨾ ltb px (x + w) ! false ⨾ leb y py ! false ⨾ ltb py (y + h)

-- rectangle k of the region's bytes holds the pixel
unfoldable pub holds : List ℕ → ℕ → ℕ → ℕ → Bool
holds rects px py k = inside (le16 rects (8 * k)) (le16 rects (8 * k + 2)) (le16 rects (8 * k + 4)) (le16 rects (8 * k + 6)) px py

-- some of the j numbers from k on passes a test
unfoldable pub some : (ℕ → Bool) → ℕ → ℕ → Bool
some on zero k = false
some on (suc j) k = on k ⇒ true ∣ some on j (k + 1)

-- "in some rectangle of the region", of n; "The search stops at the first rectangle that holds the pixel." And, as request Three mends
-- it (001, 2.2.2.3.3): "No rectangles: one rectangle over the whole channel", which holds every pixel that can be asked for
unfoldable pub in_region : List ℕ → ℕ → ℕ → ℕ → Bool
in_region rects n px py = eqb n 0 ⇒ true ∣ some (holds rects px py) n 0

-- what is stored: from a number on, so many stores, each where its test holds
unfoldable pub stores : (ℕ → Bool) → (ℕ → ℕ) → (ℕ → ℕ) → ℕ → ℕ → List ℕ → List ℕ
stores on place value zero k pic = pic
stores on place value (suc j) k pic = stores on place value j (k + 1) (on k ⇒ set pic (place k) (value k) ∣ pic)

-- pixel x of a tile's row of 64: it lies in the channel and in some rectangle; "Rectangles may hang over the edge."
unfoldable pub row_on : List ℕ → ℕ → ℕ → ℕ → ℕ → ℕ → Bool
row_on rects n w tx py x = ltb (64 * tx + x) w ! false ⨾ in_region rects n (64 * tx + x) py

-- "row by row, width words a row"
unfoldable pub row_place : ℕ → ℕ → ℕ → ℕ → ℕ
row_place w tx py x = py * w + (64 * tx + x)

-- the picture after a row of the tile at tx, whose pixel row is py; val x is the word of the row's pixel x
unfoldable pub row_drawn : List ℕ → ℕ → (ℕ → ℕ) → ℕ → ℕ → ℕ → List ℕ → List ℕ
row_drawn rects n val w tx py pic = stores (row_on rects n w tx py) (row_place w tx py) val 64 0 pic

-- so many rows of the tile at tx, ty, from row y on, in a channel of height h; val i is the word of the tile's place i
unfoldable pub rows_drawn : List ℕ → ℕ → (ℕ → ℕ) → ℕ → ℕ → ℕ → ℕ → ℕ → ℕ → List ℕ → List ℕ
rows_drawn rects n val w h tx ty zero y pic = pic
rows_drawn rects n val w h tx ty (suc j) y pic =
    rows_drawn rects n val w h tx ty j (y + 1)
    (ltb (64 * ty + y) h ⇒ row_drawn rects n (λ (x : ℕ). val (64 * y + x)) w tx (64 * ty + y) pic ∣ pic)

-- the tile drawn, row by row
unfoldable pub tile_drawn : List ℕ → ℕ → (ℕ → ℕ) → ℕ → ℕ → ℕ → ℕ → List ℕ → List ℕ
tile_drawn rects n val w h tx ty pic = rows_drawn rects n val w h tx ty 64 0 pic

-- the same said of a pixel of the channel: it lies in the tile, and in some rectangle
unfoldable pub shown : List ℕ → ℕ → ℕ → ℕ → ℕ → ℕ → Bool
shown rects n tx ty px py =
    eqb (px / 64) tx ! false ⨾
    eqb (py / 64) ty ! false ⨾
    in_region rects n px py
