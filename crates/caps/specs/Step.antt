-- What the code's walk promises, step by step: what is left of the message in front of a step is m, and behind it m'.
use Rattle.std.specs.Prelude.{ℕ, ◌≡◌, ◌≢◌, ◌⊎◌, ◌<◌, ◌≤◌, List, eqb, length, drop, Result, MatchResult}
use Rattle.whole.specs.Row.{◌!◌⨾◌}
use Rattle.wire.specs.Le.{byte_at, le16, le32}
use Rattle.wire.specs.Refusal.{refusal_number}
use Rattle.wire.specs.declared.Refusal.{Refusal}
use Rattle.caps.specs.Walk.{size, most, Layout, Came, Stopped, walk}
use Rattle.caps.specs.declared.walk.Width.{Width}
use Rattle.caps.specs.declared.walk.Width.TheVariants.{One, Two, Four}

-- the number of a field at a place
unfoldable pub number_at : Width → List ℕ → ℕ → ℕ
number_at One m at = byte_at m at
number_at Two m at = le16 m at
number_at Four m at = le32 m at

-- a field whose number is v stands in front of m'
pub record Here (w : Width) (m m' : List ℕ) (v : ℕ) : Type 0 where
  pub there : size w ≤ length m
  pub is : v ≡ number_at w m 0
  pub fits : v < most w
  pub left : m' ≡ drop (size w) m

-- its bytes are not all there: nothing is taken off
pub record Short (w : Width) (m m' : List ℕ) (n : ℕ) : Type 0 where
  pub short : length m < size w
  pub cut : n ≡ 1
  pub left : m' ≡ m

-- the next field
abbrev pub Next : Width → List ℕ → List ℕ → Result ℕ Refusal → Type 0
Next w m m' r = MatchResult r (Here w m m') (λ e. Short w m m' (refusal_number e))

-- a field with another value than the fixed one: it is taken off
pub record Other (w : Width) (v n : ℕ) (m m' : List ℕ) (k : ℕ) : Type 0 where
  pub there : size w ≤ length m
  pub not : number_at w m 0 ≢ v
  pub refused : k ≡ n
  pub left : m' ≡ drop (size w) m

-- a field with a fixed value
abbrev pub Fixed : {A : Type 0} → Width → ℕ → ℕ → List ℕ → List ℕ → Result A Refusal → Type 0
Fixed w v n m m' r = MatchResult r (λ _. Here w m m' v) (λ e. Short w m m' (refusal_number e) ⊎ Other w v n m m' (refusal_number e))

-- the end of the message
unfoldable pub ends : List ℕ → ℕ
ends m = eqb (length m) 0 ! 4 ⨾ 0

-- what a layout comes to
abbrev pub Reads : {A : Type 0} → Layout A → List ℕ → List ℕ → Result A Refusal → Type 0
Reads l m m' r = MatchResult r (λ a. walk l m ≡ Came a m') (λ e. walk l m ≡ Stopped (refusal_number e))
