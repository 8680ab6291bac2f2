-- "One of these numbers", as a test that computes: what 01 says of some answers ("untouched on 12 and 2") and of every other.
-- (01 is this project's scope document, 02 its change requests, 001 is MS-RDPRFX: README, "What 01 is".)
use Rattle.std.specs.Prelude.{ℕ, ◌≡◌, Bool, true, false, ◌||◌, List, [], ◌∷◌, eqb}

-- is the number one of these?
unfoldable pub among : List ℕ → ℕ → Bool
among [] n = false
among (k ∷ ks) n = eqb n k || among ks n

-- it is one of them
pub record Among (ks : List ℕ) (n : ℕ) : Type 0 where
  pub is : among ks n ≡ true

-- it is another
pub record Other (ks : List ℕ) (n : ℕ) : Type 0 where
  pub is : among ks n ≡ false
