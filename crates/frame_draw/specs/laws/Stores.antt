-- Laws of stores: in parts, by the same tests, and where none holds.
use Rattle.std.specs.Prelude.{ℕ, zero, suc, ◌+◌, ◌-◌, ◌≤◌, ◌<◌, ◌≡◌, refl, Bool, false, List, ltb}
use Rattle.std.proofs.Common.{ap, sym, ◌∙◌, arith, zero-add, suc-add, add-zero, lt-ltb, le-ltb}
use Rattle.whole.specs.Row.{◌⇒◌∣◌}
use Rattle.frame_draw.specs.Draw.{stores}
use Rattle.frame_draw.specs.Spans.{always}

-- in two parts
stores_split :
    (on : ℕ → Bool) (place value : ℕ → ℕ) (i j k : ℕ) (pic : List ℕ) →
    stores on place value (i + j) k pic ≡ stores on place value j (k + i) (stores on place value i k pic)
unfolding stores
stores_split on place value zero j k pic = rw (zero-add, add-zero)
stores_split on place value (suc i) j k pic =
    let a : k + 1 + i ≡ k + suc i = omega arith in
    rw (suc-add, ← a) (stores_split on place value i j (k + 1) _)

-- by the same tests
pub stores_on :
    (on other : ℕ → Bool) (place value : ℕ → ℕ) (j k : ℕ) (pic : List ℕ) → ((i : ℕ) → k ≤ i → i < k + j → on i ≡ other i) →
    stores on place value j k pic ≡ stores other place value j k pic
unfolding stores
stores_on on other place value zero k pic h = refl
stores_on on other place value (suc j) k pic h =
    rw (h k (omega arith) (omega arith)) (stores_on on other place value j (k + 1) _ (λ i a b. h i (omega arith) (omega arith)))

-- where no test holds
pub stores_off :
    (on : ℕ → Bool) (place value : ℕ → ℕ) (j k : ℕ) (pic : List ℕ) → ((i : ℕ) → k ≤ i → i < k + j → on i ≡ false) →
    pic ≡ stores on place value j k pic
unfolding stores ◌⇒◌∣◌
stores_off on place value zero k pic h = refl
stores_off on place value (suc j) k pic h =
    rw (h k (omega arith) (omega arith)) (stores_off on place value j (k + 1) _ (λ i a b. h i (omega arith) (omega arith)))

-- of n words the first so many
pub stores_first :
    (on : ℕ → Bool) (place value : ℕ → ℕ) (part n : ℕ) (pic : List ℕ) → part ≤ n → ((x : ℕ) → x < n → on x ≡ ltb x part) →
    stores always place value part 0 pic ≡ stores on place value n 0 pic
stores_first on place value part n pic l h =
    let a : n ≡ part + (n - part) = omega arith in
    let first = stores on place value part 0 pic in
    stores_on always on place value part 0 pic (λ i p q. sym (h i (omega arith) ∙ lt-ltb i part (omega arith)))
    ∙ (stores_off on place value (n - part) (0 + part) first (λ i p q. h i (omega arith) ∙ le-ltb i part (omega arith))
    ∙ (sym (stores_split on place value part (n - part) 0 pic) ∙ ap (λ (j : ℕ). stores on place value j 0 pic) (sym a)))
