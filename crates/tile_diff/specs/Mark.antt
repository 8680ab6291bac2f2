-- The picture for people: the second picture dimmed, the differing tiles framed.
use Rattle.std.specs.Prelude.{ℕ, zero, suc, ◌+◌, ◌*◌, ◌/◌, ◌%◌, Bool, true, List, length, get_or, set, leb, ltb, eqb}
use Rattle.whole.specs.Row.{◌!◌⨾◌, ◌⇒◌∣◌}
use Rattle.session.specs.Header.{tiles_over}

-- half of each of the three parts of a 5-6-5 word
unfoldable pub dimmed : ℕ → ℕ
dimmed v = v / 4096 * 2048 + v / 64 % 32 * 32 + v / 2 % 16

-- a column (or a row) is one of the two outermost of its tile, in a picture of n
unfoldable pub at_edge : ℕ → ℕ → Bool
at_edge v n =
    ltb (v % 64) 2 ⇒ true ∣
    ltb 61 (v % 64) ⇒ true ∣
    leb n (v + 2)

-- the word that is shown at column x of row y: red (F800) on the frame of a tile that differs
unfoldable pub shown_at : ℕ → ℕ → ℕ → ℕ → ℕ → List ℕ → ℕ
shown_at v w h x y cs =
    eqb (get_or cs (y / 64 * tiles_over w + x / 64) 0) 0 ⇒ dimmed v ∣
    at_edge x w ⇒ 0xF800 ∣
    at_edge y h ⇒ 0xF800 ∣
    dimmed v

-- the first n words of a row
unfoldable pub columns_marked : List ℕ → ℕ → ℕ → ℕ → List ℕ → ℕ → List ℕ → List ℕ
columns_marked vs w h y cs zero out = out
columns_marked vs w h y cs (suc n) out = set (columns_marked vs w h y cs n out) n (shown_at (get_or vs n 0) w h n y cs)

unfoldable pub row_marked : List ℕ → ℕ → ℕ → ℕ → List ℕ → List ℕ → List ℕ
row_marked vs w h y cs out =
    leb w (length vs) ! out ⨾
    leb w (length out) ! out ⨾
    columns_marked vs w h y cs w out
