-- What the functions that compare answer: runs of bytes, rows of them, and a number at a place of a list.
use Rattle.std.specs.Prelude.{ℕ, ◌+◌, ◌*◌, ◌≤◌, ◌<◌, Bool, false, List, length, get_or, ltb, eqb}
use Rattle.whole.specs.Row.{◌!◌⨾◌}
use Rattle.plan.specs.Plan.{all_below}

-- a byte from a place on is the same in both
abbrev pub same_byte : List ℕ → List ℕ → ℕ → ℕ → Bool
same_byte a b at i = eqb (get_or a (at + i) 0) (get_or b (at + i) 0)

-- n bytes from a place on are the same in both
unfoldable pub same_run : List ℕ → List ℕ → ℕ → ℕ → Bool
same_run a b at n = all_below (same_byte a b at) n

-- rows of n bytes are, each step bytes behind the one before
unfoldable pub same_rows : List ℕ → List ℕ → ℕ → ℕ → ℕ → ℕ → Bool
same_rows a b at step n rows = all_below (λ r. same_run a b (at + r * step) n) rows

-- such rows lie within a list
pub record RowsIn (a : List ℕ) (at step n rows : ℕ) : Type 0 where
  pub some : 1 ≤ rows
  pub row : (r : ℕ) → r < rows → at + r * step + n ≤ length a

-- number k stands at place i
unfoldable pub listed_at : List ℕ → ℕ → ℕ → Bool
listed_at ks i k = ltb i (length ks) ! false ⨾ eqb (get_or ks i 0) k
