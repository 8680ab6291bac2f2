-- Which numbers a row of checks can come to: `search numbers` puts them together, `among_each` says what holds of all of them.
use Rattle.std.specs.Prelude.{ℕ, zero, suc, ◌≤◌, ◌≡◌, refl, Bool, true, false, ◌&&◌, ◌||◌, not, List, [], ◌∷◌, eqb, leb}
use Rattle.std.proofs.Common.{sym, ap, ◌∙◌, true≢false, arith, eqb-true, leb-true, ne_eqb}
use Rattle.std.proofs.Math.Path.{subst⁻¹}
use Rattle.whole.specs.Row.{◌!◌⨾◌, ◌⇒◌∣◌, ◌⨟◌}
use Rattle.whole.specs.Among.{among, Among, Other}

-- a number and numbers that are written out: `said refl`, where `among` unfolds
pub said : {ks : List ℕ} {n : ℕ} → among ks n ≡ true → Among ks n
said e = record { is = e }

-- a row of checks, a case, and one fault and then another
pub among_row : {ks : List ℕ} (t : Bool) (f rest : ℕ) → Among ks f → Among ks rest → Among ks (t ! f ⨾ rest)
unfolding ◌!◌⨾◌
among_row true f rest p q = q
among_row false f rest p q = p

pub among_case : {ks : List ℕ} (t : Bool) (a b : ℕ) → Among ks a → Among ks b → Among ks (t ⇒ a ∣ b)
unfolding ◌⇒◌∣◌
among_case true a b p q = p
among_case false a b p q = q

pub among_then : {ks : List ℕ} (a b : ℕ) → Among ks a → Among ks b → Among ks (a ⨟ b)
unfolding ◌⨟◌
among_then zero b p q = q
among_then (suc a) b p q = p

pub ruleset numbers = (among_row, among_case, among_then, said, refl)

-- does a test hold of each of them?
unfoldable pub each : (ℕ → Bool) → List ℕ → Bool
each p [] = true
each p (k ∷ ks) = p k && each p ks

both_true : (a b : Bool) → (a && b) ≡ true → (a ≡ true) × (b ≡ true)
both_true true b e = (refl, e)
both_true false b e = absurd (true≢false (sym e))

-- then it holds of any one of them
each_one : (p : ℕ → Bool) (ks : List ℕ) (n : ℕ) → each p ks ≡ true → among ks n ≡ true → p n ≡ true
unfolding each among
each_one p [] n a b = absurd (true≢false (sym b))
each_one p (k ∷ ks) n a b = by (eqb n k) refl b (λ c. each_one p ks n (both_true (p k) (each p ks) a).1 c)
  where
    by : (t : Bool) → eqb n k ≡ t → (t || among ks n) ≡ true → (among ks n ≡ true → p n ≡ true) → p n ≡ true
    by true e b rest = subst⁻¹ (λ (x : ℕ). p x ≡ true) (eqb-true n k e) (both_true (p k) (each p ks) a).0
    by false e b rest = rest b

pub among_each : (p : ℕ → Bool) {ks : List ℕ} {n : ℕ} → Among ks n → each p ks ≡ true → p n ≡ true
among_each p {ks} {n} a e = each_one p ks n e a.is

pub among_most : (m : ℕ) {ks : List ℕ} {n : ℕ} → Among ks n → each (λ k. leb k m) ks ≡ true → n ≤ m
among_most m {ks} {n} a e = leb-true n m (among_each (λ k. leb k m) a e)

-- all of the first are of the second; none of them is
pub among_all : (ls : List ℕ) {ks : List ℕ} {n : ℕ} → Among ks n → each (among ls) ks ≡ true → Among ls n
among_all ls a e = record { is = among_each (among ls) a e }

not_is : (t : Bool) → not t ≡ true → t ≡ false
not_is true e = absurd (true≢false (sym e))
not_is false e = refl

pub among_none : (ls : List ℕ) {ks : List ℕ} {n : ℕ} → Among ks n → each (λ k. not (among ls k)) ks ≡ true → Other ls n
among_none ls {ks} {n} a e = record { is = not_is (among ls n) (among_each (λ k. not (among ls k)) a e) }

-- one of these is no number that is another
pub among_not : {ks : List ℕ} (k n : ℕ) → Among ks n → among ks k ≡ false → n ≡ k → ⊥
among_not {ks} k n a o e = true≢false (sym a.is ∙ ap (among ks) e ∙ o)

-- f is a first fault whose numbers are ks, and g another that comes to none of them: the number of both together tells whether f was there
pub first_there : {ks : List ℕ} (f g : ℕ) → Other ks g → Among ks (f ⨟ g) → f ≡ 0 → ⊥
unfolding ◌⨟◌
first_there zero g o a e = true≢false (sym a.is ∙ o.is)
first_there (suc f) g o a e = omega arith

pub first_none : {ks : List ℕ} (f g : ℕ) → Among (0 ∷ ks) f → Other ks (f ⨟ g) → f ≡ 0
unfolding ◌⨟◌ among
first_none zero g a o = refl
first_none (suc f) g a o = absurd (true≢false (sym a.is ∙ rw (ne_eqb (suc f) 0 (λ e. omega arith)) o.is))
