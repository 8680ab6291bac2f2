-- The files of 001's worked sample as lists, how many places of two lists agree, and how many rows as 001 prints them are those of a stage.
use Rattle.std.specs.Prelude.{ℕ, zero, suc, ◌+◌, ◌*◌, ◌-◌, ◌≤◌, ◌<◌, ◌≡◌, Bool, true, false, List, [], ◌∷◌, leb, ltb, eqb, ℤ, pos, negsuc, ◌+ℤ◌, ◌-ℤ◌, ◌*ℤ◌}
use Rattle.std.specs.Prelude.{length, get_or, take, drop}
use Rattle.whole.specs.Row.{◌!◌⨾◌, ◌⇒◌∣◌}

-- the n numbers from place a on, none where they are not all there
unfoldable pub part_of : List ℤ → ℕ → ℕ → List ℤ
part_of l a n =
    leb a (length l) ! take 0 l ⨾
    leb n (length l - a) ! take 0 l ⨾
    take n (drop a l)

-- a number of a file: two bytes, low byte first, for the number and 32,768
unfoldable pub number_of : ℤ → ℤ → ℤ
number_of low high = low +ℤ pos 256 *ℤ high -ℤ pos 32768

-- the number at place i of a file of 8,320 bytes, 0 past the end
unfoldable pub value_at : List ℕ → ℕ → ℤ
value_at bytes i =
    leb 4160 i ⇒ pos 0 ∣
    number_of (pos (get_or bytes (2 * i) 0)) (pos (get_or bytes (2 * i + 1) 0))

-- a list of the same length that has the file's number at each place
pub record Unpacked (bytes : List ℕ) (before after : List ℤ) : Type 0 where
  pub long : length after ≡ length before
  pub each : (i : ℕ) → i < length before → get_or after i (pos 0) ≡ value_at bytes i

-- a list read from a file, whatever the file holds: the numbers of some bytes, and how many of them the file had, 4,160 at most
pub record Loaded (before after : List ℤ) (n : ℕ) : Type 0 where
  pub bytes : List ℕ
  pub unpacked : Unpacked bytes before after
  pub most : n ≤ 4160

-- 1 for yes, 0 for no
unfoldable pub one_if : Bool → ℕ
one_if true = 1
one_if false = 0

-- are two numbers the same?
unfoldable pub same_z : ℤ → ℤ → Bool
same_z (pos a) (pos b) = eqb a b
same_z (pos a) (negsuc b) = false
same_z (negsuc a) (pos b) = false
same_z (negsuc a) (negsuc b) = eqb a b

-- does a list hold x at place i? Not where the place is past its end
unfoldable pub holds_at : List ℤ → ℕ → ℤ → Bool
holds_at [] i x = false
holds_at (y ∷ ys) zero x = same_z y x
holds_at (y ∷ ys) (suc i) x = holds_at ys i x

-- how many places of two lists hold the same number
unfoldable pub agreeing : List ℤ → List ℤ → ℕ
agreeing [] ys = 0
agreeing (x ∷ xs) [] = 0
agreeing (x ∷ xs) (y ∷ ys) = one_if (same_z y x) + agreeing xs ys

-- a number of a file as a place, 0 where it is below 0
unfoldable pub place_of : ℤ → ℕ
place_of (pos n) = n
place_of (negsuc n) = 0

-- a row as 001 prints it: at place a of a file its place in the stage, behind that its w numbers. Are they the stage's?
unfoldable pub row_same : List ℤ → List ℤ → ℕ → ℕ → Bool
row_same rows got w a =
    ltb a (length rows) ! false ⨾
    eqb (agreeing (part_of got (place_of (get_or rows a (pos 0))) w) (part_of rows (a + 1) w)) w

-- how many of the first n rows are
unfoldable pub rows_same : List ℤ → List ℤ → ℕ → ℕ → ℕ
rows_same rows got w zero = 0
rows_same rows got w (suc i) = rows_same rows got w i + one_if (row_same rows got w (i * (w + 1)))
