-- A number as text, and a text put into memory that is lent.
use Rattle.std.specs.Prelude.{ℕ, zero, suc, ◌+◌, ◌^◌, ◌≡◌, List, [], ◌∷◌, ◌++◌, length, ltb}
use Rattle.whole.specs.Row.{◌⇒◌∣◌}
use Rattle.wire.specs.Le.{patch}
use Rattle.io.specs.Digits.{last_digits}

-- the fewest digits, from k on, that hold a number in a base; twenty more than k are never needed, since no number has 2^64 or more
unfoldable pub figures_from : ℕ → ℕ → ℕ → ℕ → ℕ
figures_from zero base k n = k
figures_from (suc more) base k n = ltb n (base ^ k) ⇒ k ∣ figures_from more base (k + 1) n

-- a number in a base, of at least so many digits, the most significant first
unfoldable pub text_of : ℕ → ℕ → ℕ → List ℕ
text_of base least n = last_digits base (figures_from 20 base least n) n

abbrev pub decimal_of : ℕ → List ℕ
decimal_of n = text_of 10 1 n

abbrev pub hex_of : ℕ → ℕ → List ℕ
hex_of least n = text_of 16 least n

-- numbers one behind the other, each by its own text
unfoldable pub text_each : (ℕ → List ℕ) → List ℕ → List ℕ
text_each text [] = []
text_each text (n ∷ ns) = text n ++ text_each text ns

-- a text was put at a place: the memory afterwards, and the place behind it
pub record Put (out : List ℕ) (at : ℕ) (text out' : List ℕ) (r : ℕ) : Type 0 where
  pub behind : r ≡ at + length text
  pub left : out' ≡ patch out at text
