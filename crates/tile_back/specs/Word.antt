-- A tile's words from its three lists of samples (01, "Colour").
-- (01 is this project's scope document, 02 its change requests, 001 is MS-RDPRFX: README, "What 01 is".)
use Rattle.std.specs.Prelude.{ℕ, ◌+◌, ◌*◌, ◌<◌, ◌≡◌, List, ℤ, length, get_or}
use Rattle.whole.specs.Tab.{at}
use Rattle.whole.specs.laws.Tab.{AllNear}
use Rattle.colour.specs.Colour.{word_of}

-- 64 x 64 samples of a component
pub record Plane (xs : List ℤ) : Type 0 where
  pub len : length xs ≡ 4096
  pub near : AllNear 2097151 xs

-- the word at place i of a tile, row by row, on a glass
unfoldable pub word_at : ℕ → List ℤ → List ℤ → List ℤ → ℕ → ℕ
word_at glass ys cbs crs i = word_of glass (at ys i) (at cbs i) (at crs i)

-- the 64 words of row y of a tile
pub record WordsRow (glass : ℕ) (ys cbs crs : List ℤ) (y : ℕ) (row : List ℕ) : Type 0 where
  pub len : length row ≡ 64
  pub word : (x : ℕ) → x < 64 → get_or row x 0 ≡ word_at glass ys cbs crs (64 * y + x)
