-- A tile's row drawn by a mask, the form of the code: its 64 words as the bits of a number, set where they are drawn. laws/Mask shows that the
-- row drawn so is `row_drawn`, and laws/Asked that a tile which one rectangle holds is drawn as if the region had none.
use Rattle.std.specs.Prelude.{ℕ, ◌+◌, ◌*◌, ◌-◌, ◌/◌, ◌%◌, ◌^◌, ◌<◌, min, ◌≡◌, List, Bool, true, false, eqb}
use Rattle.whole.specs.Row.{◌!◌⨾◌, ◌⇒◌∣◌}
use Rattle.frame_draw.specs.Draw.{holds, some, row_on}

-- every word
abbrev pub always : ℕ → Bool
always x = true

-- so many of a tile's 64 columns (or rows) lie in a channel of width (or height) w, and the last of them
abbrev pub part_of : ℕ → ℕ → ℕ
part_of w tx = min 64 (w - 64 * tx)

abbrev pub last_of : ℕ → ℕ → ℕ
last_of w tx = 64 * tx + (part_of w tx - 1)

-- ---- a row's 64 words as the bits of a number

-- bit x of a number
unfoldable pub bit_at : ℕ → ℕ → Bool
bit_at m x = eqb (m / 2 ^ x % 2) 1

-- the words from one on to before another; none where that is no more
unfoldable pub mask_of : ℕ → ℕ → ℕ
mask_of from to = (2 ^ (to - from) - 1) * 2 ^ from

-- all of them lie in the channel
pub record InChannel (w tx m : ℕ) : Type 0 where
  pub most : (x : ℕ) → x < 64 → bit_at m x ≡ true → 64 * tx + x < w

-- the words of a row that is held against n rectangles: a bit is set exactly if its word is drawn
pub record RowMask (rects : List ℕ) (n w tx py m : ℕ) : Type 0 where
  pub words : (x : ℕ) → x < 64 → bit_at m x ≡ row_on rects n w tx py x

-- ---- a tile

-- rectangle k holds two pixels, and so all that lie between them
unfoldable pub covers : List ℕ → ℕ → ℕ → ℕ → ℕ → ℕ → Bool
covers rects px py qx qy k = holds rects px py k ! false ⨾ holds rects qx qy k

-- so many of n rectangles a tile is held against: none where one holds its first pixel and its last in the channel
unfoldable pub asked : List ℕ → ℕ → ℕ → ℕ → ℕ → ℕ → ℕ
asked rects n w h tx ty = some (covers rects (64 * tx) (64 * ty) (last_of w tx) (last_of h ty)) n 0 ⇒ 0 ∣ n
