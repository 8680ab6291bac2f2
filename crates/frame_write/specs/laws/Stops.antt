-- The first of many refusals: it is none exactly where none of them is one, and it asks for those from the i-th on and below n more.
-- Assumes nothing.
use Rattle.std.specs.Prelude.{ℕ, zero, suc, ◌+◌, ◌-◌, ◌≤◌, ◌<◌, ◌≡◌, refl}
use Rattle.std.proofs.Common.{ap₂, sym, subst, ⊎_elim, arith, eq-or-lt_of_le}
use Rattle.whole.specs.Row.{◌⨟◌}
use Rattle.whole.specs.laws.Row.{both, goes_on}
use Rattle.frame_write.specs.Picked.{stops_of}

left : (n i : ℕ) → i < n → n - i ≡ suc (n - (i + 1))
left n i l = omega arith

pub stops_step : (stop : ℕ → ℕ) (n i : ℕ) → i < n → stops_of stop (n - i) i ≡ (stop i ⨟ stops_of stop (n - (i + 1)) (i + 1))
unfolding stops_of
stops_step stop n i l = rw (left n i l)

pub stops_none : (stop : ℕ → ℕ) (n i : ℕ) → 0 ≡ stops_of stop n i → (j : ℕ) → i ≤ j → j < i + n → 0 ≡ stop j
unfolding stops_of
stops_none stop zero i e j a b = absurd (omega arith)
stops_none stop (suc n) i e j a b =
    let f = both _ _ e in
    ⊎_elim (λ (z : i ≡ j). subst (λ (k : ℕ). 0 ≡ stop k) z f.0)
    (λ (l : i < j). stops_none stop n (i + 1) f.1 j (omega arith) (omega arith))
    (eq-or-lt_of_le a)

pub none_stops : (stop : ℕ → ℕ) → ((j : ℕ) → 0 ≡ stop j) → (n i : ℕ) → 0 ≡ stops_of stop n i
unfolding stops_of
none_stops stop h zero i = refl
none_stops stop h (suc n) i = goes_on _ _ _ (sym (h i)) (none_stops stop h n (i + 1))

pub stops_same : (a b : ℕ → ℕ) (n i : ℕ) → ((j : ℕ) → i ≤ j → j < i + n → a j ≡ b j) → stops_of a n i ≡ stops_of b n i
unfolding stops_of
stops_same a b zero i h = refl
stops_same a b (suc n) i h =
    ap₂ ◌⨟◌ (h i (omega arith) (omega arith)) (stops_same a b n (i + 1) (λ j l m. h j (omega arith) (omega arith)))
