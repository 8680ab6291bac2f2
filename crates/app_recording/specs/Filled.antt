-- Lent memory as it is filled before a call, and judged after.
use Rattle.std.specs.Prelude.{◌≡◌, ℕ, ◌+◌, ◌*◌, ◌%◌, ◌<◌, Bool, true, false, List, length, replicate, ℤ, ◌≢◌, slice_index_or}

-- the word at a place of a picture before a call, below n
unfoldable pub picture_word : ℕ → ℕ → ℕ → ℕ
picture_word n seed i = (i % n * 25173 + seed % n * 13849 + 1) % n

-- a picture of the same length that has at each place the word for it; d is what stands past the end
pub record Pictured {A : Type 0} (word_at : ℕ → A) (before after : List A) : Type 0 where
  pub long : length after ≡ length before
  pub each : (i : ℕ) (d : A) → i < length before → slice_index_or after i d ≡ word_at i

-- the answer to: is every number v?
pub record AllAre (v : ℤ) (l : List ℤ) (r : Bool) : Type 0 where
  pub all : r ≡ true → l ≡ replicate (length l) v
  pub some : r ≡ false → l ≢ replicate (length l) v
