-- 02's request Seven over two lists of words: which tiles differ, and the lines that say so.
-- (01 is this project's scope document, 02 its change requests, 001 is MS-RDPRFX: README, "What 01 is".)
use Rattle.std.specs.Prelude.{ℕ, zero, suc, ◌+◌, ◌*◌, ◌/◌, ◌%◌, Bool, true, false, List, [], ◌∷◌, get_or, ltb, eqb}
use Rattle.whole.specs.Row.{◌!◌⨾◌, ◌⇒◌∣◌}
use Rattle.session.specs.Header.{tiles_over}
use Rattle.tile_diff.specs.declared.count.Line.{Line}

-- a file's words: "then words, little-endian"
unfoldable pub words_of : List ℕ → List ℕ
words_of [] = []
words_of (a ∷ []) = []
words_of (a ∷ b ∷ m) = (a + 256 * b) ∷ words_of m

-- two words, compared
unfoldable pub not_same : ℕ → ℕ → Bool
not_same a b = eqb a b ⇒ false ∣ true

-- how many places below n meet a test
unfoldable pub how_many : (ℕ → Bool) → ℕ → ℕ
how_many p zero = 0
how_many p (suc n) = how_many p n + (p n ⇒ 1 ∣ 0)

-- place i of pictures of width w lies in the tile of column x and row y, and the words there differ
unfoldable pub differs_at : List ℕ → List ℕ → ℕ → ℕ → ℕ → ℕ → Bool
differs_at ps qs w x y i =
    eqb (i % w / 64) x ! false ⨾
    eqb (i / w / 64) y ! false ⨾
    not_same (get_or ps i 0) (get_or qs i 0)

-- "the count of differing words" of a tile
unfoldable pub differs : List ℕ → List ℕ → ℕ → ℕ → ℕ → ℕ → ℕ
differs ps qs w h x y = how_many (differs_at ps qs w x y) (h * w)

-- tile k, "its column and row from 0", tiles being numbered row by row, with a count
abbrev pub line_of : ℕ → ℕ → ℕ → Line
line_of columns k n = record { x = k % columns; y = k / columns; n = n }

-- of m tiles from tile k on those with a count above 0, each with its line
unfoldable pub lines_of : (ℕ → ℕ) → ℕ → ℕ → ℕ → List Line
lines_of count columns zero k = []
lines_of count columns (suc m) k =
    ltb 0 (count k) ⇒ line_of columns k (count k) ∷ lines_of count columns m (k + 1) ∣
    lines_of count columns m (k + 1)

-- "the tiles that differ, row by row: one line \"x y n\" per tile"
unfoldable pub listed : List ℕ → List ℕ → ℕ → ℕ → List Line
listed ps qs w h =
    lines_of (λ k. differs ps qs w h (k % tiles_over w) (k / tiles_over w)) (tiles_over w) (tiles_over w * tiles_over h) 0
