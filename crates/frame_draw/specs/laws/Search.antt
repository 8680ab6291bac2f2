-- Laws of a search, and of the tests around it.
use Rattle.std.specs.Prelude.{ℕ, zero, suc, ◌+◌, ◌-◌, ◌≤◌, ◌<◌, ◌≡◌, Bool, true, false}
use Rattle.std.proofs.Math.Path.{refl}
use Rattle.std.proofs.Common.{ap, sym, ◌∙◌, ⊎_elim, add-zero}
use Rattle.std.proofs.lemmas.Bool.{false≢true}
use native.Mathlib.Omega.{arith}
use Rattle.std.proofs.Math.Nat.{sub-zero}
use Rattle.whole.specs.Row.{◌!◌⨾◌, ◌⇒◌∣◌}
use Rattle.whole.specs.laws.Row.{case_yes, case_no}
use Rattle.frame_draw.specs.Draw.{some}
use Rattle.frame_draw.specs.laws.Draw.{left}
use Rattle.frame_draw.specs.laws.Pixels.{split}

-- ---- tests

-- two tests that hold together are one
pub same : (a b : Bool) → (a ≡ true → b ≡ true) → (b ≡ true → a ≡ true) → a ≡ b
same true b f g = sym (f refl)
same false true f g = g refl
same false false f g = refl

pub either : (a b : Bool) → a ≡ true → (a ⇒ true ∣ b) ≡ true
unfolding ◌⇒◌∣◌
either true b e = refl
either false b e = absurd (false≢true e)

or_else : (a b : Bool) → b ≡ true → (a ⇒ true ∣ b) ≡ true
unfolding ◌⇒◌∣◌
or_else true b e = refl
or_else false b e = e

pub or_none : (a : Bool) → (a ⇒ true ∣ false) ≡ a
unfolding ◌⇒◌∣◌
or_none true = refl
or_none false = refl

or_assoc : (a b c : Bool) → (a ⇒ true ∣ (b ⇒ true ∣ c)) ≡ ((a ⇒ true ∣ b) ⇒ true ∣ c)
unfolding ◌⇒◌∣◌
or_assoc true b c = refl
or_assoc false b c = refl

-- behind a test that is the same for both
pub behind : (t a b c : Bool) → c ≡ (a ⇒ true ∣ b) → (t ! false ⨾ c) ≡ ((t ! false ⨾ a) ⇒ true ∣ (t ! false ⨾ b))
unfolding ◌!◌⨾◌ ◌⇒◌∣◌
behind true a b c e = e
behind false a b c e = refl

pub alone : (t : Bool) → (t ! false ⨾ true) ≡ t
unfolding ◌!◌⨾◌
alone true = refl
alone false = refl

pub nowhere : (t : Bool) → false ≡ (t ! false ⨾ false)
unfolding ◌!◌⨾◌
nowhere true = refl
nowhere false = refl

pub not_none : (n : ℕ) → (n ≡ 0 → ⊥) → 0 < n
not_none zero f = absurd (f refl)
not_none (suc n) f = omega arith

-- ---- whether some number passes

-- a search from the first number on, one step at a time
module _ (on : ℕ → Bool) (n k : ℕ) where
  pub some_starts : some on n 0 ≡ some on (n - 0) 0
  some_starts = rw sub-zero

  pub some_yes : k < n → on k ≡ true → true ≡ some on (n - k) k
  unfolding some
  some_yes l h = rw (left n k l) (case_yes _ _ _ _ h refl)

  pub some_more : k < n → on k ≡ false → some on (n - k) k ≡ some on (n - (k + 1)) (k + 1)
  unfolding some
  some_more l h = rw (left n k l) (sym (case_no _ _ _ _ h refl))

  pub some_none : n ≤ k → false ≡ some on (n - k) k
  unfolding some
  some_none l = let z : n - k ≡ 0 = omega arith in rw z refl

-- with one number more
pub some_last : (on : ℕ → Bool) (j k : ℕ) → some on (suc j) k ≡ (some on j k ⇒ true ∣ on (k + j))
unfolding some ◌⇒◌∣◌
some_last on zero k = or_none (on k) ∙ ap on (sym (add-zero k))
some_last on (suc j) k =
    let a : k + 1 + j ≡ k + suc j = omega arith in
    ap (λ (b : Bool). on k ⇒ true ∣ b) (some_last on j (k + 1))
    ∙ (or_assoc (on k) (some on j (k + 1)) (on (k + 1 + j)) ∙ ap (λ (z : ℕ). (on k ⇒ true ∣ some on j (k + 1)) ⇒ true ∣ on z) a)

-- over more numbers
pub some_wider : (on : ℕ → Bool) (i j k : ℕ) → some on i k ≡ true → i ≤ j → some on j k ≡ true
unfolding some
some_wider on zero j k e l = absurd (false≢true e)
some_wider on (suc i) zero k e l = absurd (omega arith)
some_wider on (suc i) (suc j) k e l =
    ⊎_elim
    (λ (q : on k ≡ true). either _ _ q)
    (λ (q : on k ≡ false). or_else _ _ (some_wider on i j (k + 1) (case_no _ _ _ _ q refl ∙ e) (omega arith)))
    (split (on k))

-- by a weaker test
pub some_also :
    (on other : ℕ → Bool) (j k : ℕ) → ((i : ℕ) → on i ≡ true → other i ≡ true) → some on j k ≡ true → some other j k ≡ true
unfolding some
some_also on other zero k f e = absurd (false≢true e)
some_also on other (suc j) k f e =
    ⊎_elim
    (λ (q : on k ≡ true). either _ _ (f k q))
    (λ (q : on k ≡ false). or_else _ _ (some_also on other j (k + 1) f (case_no _ _ _ _ q refl ∙ e)))
    (split (on k))
