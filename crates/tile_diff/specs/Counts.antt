-- The counts of all tiles, kept row after row: what the functions of `count` do with the list that they are lent.
use Rattle.std.specs.Prelude.{ℕ, zero, suc, ◌+◌, ◌*◌, ◌-◌, ◌/◌, Bool, List, length, get_or, set, leb, ltb, Option, Some, None}
use Rattle.whole.specs.Row.{◌!◌⨾◌, ◌⇒◌∣◌}
use Rattle.session.specs.Header.{tiles_over}
use Rattle.tile_diff.specs.Tiles.{not_same, line_of}
use Rattle.tile_diff.specs.declared.count.Line.{Line}

-- one more at place k, if it is there; no count goes past the largest
unfoldable pub one_more : ℕ → List ℕ → List ℕ
one_more k cs = ltb (get_or cs k 0) 4294967295 ! cs ⨾ set cs k (get_or cs k 0 + 1)

unfoldable pub counted_if : Bool → ℕ → List ℕ → List ℕ
counted_if differ k cs = differ ⇒ one_more k cs ∣ cs

-- the first n columns of row y, each in the tile over it
unfoldable pub columns_counted : List ℕ → List ℕ → ℕ → ℕ → ℕ → List ℕ → List ℕ
columns_counted ps qs w y zero cs = cs
columns_counted ps qs w y (suc n) cs =
    counted_if (not_same (get_or ps n 0) (get_or qs n 0)) (y / 64 * tiles_over w + n / 64) (columns_counted ps qs w y n cs)

-- a row of each picture; nothing where words are missing
unfoldable pub row_counted : List ℕ → List ℕ → ℕ → ℕ → List ℕ → List ℕ
row_counted ps qs w y cs =
    leb w (length ps) ! cs ⨾
    leb w (length qs) ! cs ⨾
    columns_counted ps qs w y w cs

-- of m tiles from tile k on the first with a count above 0
unfoldable pub next_of : List ℕ → ℕ → ℕ → ℕ → Option (ℕ × Line)
next_of cs columns zero k = None
next_of cs columns (suc m) k =
    ltb 0 (get_or cs k 0) ⇒ Some (k, line_of columns k (get_or cs k 0)) ∣
    next_of cs columns m (k + 1)

unfoldable pub next_tile : List ℕ → ℕ → ℕ → ℕ → Option (ℕ × Line)
next_tile cs w h from = next_of cs (tiles_over w) (tiles_over w * tiles_over h - from) from
