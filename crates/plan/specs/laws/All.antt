-- Laws of `all_below` and of tests: a test that holds everywhere below n, one that fails somewhere, and two tests that say the same.
use Rattle.std.specs.Prelude.{ℕ, zero, suc, ◌+◌, ◌≤◌, ◌<◌, ◌≡◌, refl, Bool, true, false}
use Rattle.std.proofs.Common.{sym, ◌∙◌, arith, add-one, below_more}
use Rattle.whole.specs.Row.{◌!◌⨾◌}
use Rattle.whole.specs.laws.Row.{passes, held}
use Rattle.plan.specs.Plan.{all_below}

-- ---- tests

pub yes_not_no : true ≡ false → ⊥
yes_not_no e = let z : ◌≡◌ {A = ℕ} 0 1 = cc in omega arith

-- one test holds just where the other does
pub same_test : (a b : Bool) → (a ≡ true → b ≡ true) → (b ≡ true → a ≡ true) → a ≡ b
same_test true b f g = sym (f refl)
same_test false true f g = g refl
same_test false false f g = refl

pub other_test : (a : Bool) → (a ≡ true → ⊥) → a ≡ false
other_test true f = absurd (f refl)
other_test false f = refl

-- ---- all below n

pub all_none : (p : ℕ → Bool) → true ≡ all_below p 0
unfolding all_below
all_none p = refl

pub all_next : (p : ℕ → Bool) (n : ℕ) → all_below p (n + 1) ≡ (p n ! false ⨾ all_below p n)
unfolding all_below
all_next p n = rw add-one

-- one more that meets the test
pub all_more : (p : ℕ → Bool) (n : ℕ) → true ≡ all_below p n → p n ≡ true → true ≡ all_below p (n + 1)
all_more p n a e = passes _ _ _ _ e a ∙ sym (all_next p n)

pub all_is : (p : ℕ → Bool) (n : ℕ) → all_below p n ≡ true → (i : ℕ) → i < n → p i ≡ true
unfolding all_below
all_is p zero e i h = absurd (omega arith)
all_is p (suc n) e i h =
    let q = held (p n) false (all_below p n) true yes_not_no (sym e) in
    below_more (λ k. p k ≡ true) n (all_is p n (sym q.1)) q.0 i (rw add-one h)

pub is_all : (p : ℕ → Bool) (n : ℕ) → ((i : ℕ) → i < n → p i ≡ true) → all_below p n ≡ true
unfolding all_below
is_all p zero h = refl
is_all p (suc n) h = sym (passes _ _ _ _ (h n (omega arith)) (sym (is_all p n (λ i l. h i (omega arith)))))

-- one that fails
pub all_fails : (p : ℕ → Bool) (n i : ℕ) → i < n → p i ≡ false → false ≡ all_below p n
all_fails p n i h e = sym (other_test (all_below p n) (λ a. yes_not_no (sym (all_is p n a i h) ∙ e)))

-- fewer of them
pub all_fewer : (p : ℕ → Bool) (m n : ℕ) → m ≤ n → true ≡ all_below p n → true ≡ all_below p m
all_fewer p m n h a = sym (is_all p m (λ i l. all_is p n (sym a) i (omega arith)))
