-- Laws on a row of checks, and the rules by which `search` walks one.
use Rattle.std.specs.Prelude.{ℕ, zero, suc, ◌≡◌, refl, Bool, true, false, ◌&&◌, ◌||◌, not, eqb}
use Rattle.std.proofs.Common.{ap, sym, ◌∙◌, subst, arith, lt-ltb, le-ltb, le-leb, eq-eqb, ne_eqb}
use Rattle.std.proofs.Math.Path.{subst⁻¹}
use Rattle.std.proofs.lemmas.Bool.{lt-leb}
use Rattle.whole.specs.Row.{◌!◌⨾◌, ◌⇒◌∣◌, ◌⨟◌}

pub fails {ℓ} : {A : Type ℓ} (t : Bool) (f rest x : A) → t ≡ false → x ≡ f → x ≡ (t ! f ⨾ rest)
unfolding ◌!◌⨾◌
fails t f rest x h e = subst⁻¹ (λ (b : Bool). x ≡ (b ! f ⨾ rest)) h e

pub passes {ℓ} : {A : Type ℓ} (t : Bool) (f rest x : A) → t ≡ true → x ≡ rest → x ≡ (t ! f ⨾ rest)
unfolding ◌!◌⨾◌
passes t f rest x h e = subst⁻¹ (λ (b : Bool). x ≡ (b ! f ⨾ rest)) h e

-- what held where a row came out at x, which the first fault is not
pub held {ℓ} : {A : Type ℓ} (t : Bool) (f rest x : A) → (x ≡ f → ⊥) → x ≡ (t ! f ⨾ rest) → (t ≡ true) × (x ≡ rest)
unfolding ◌!◌⨾◌
held true f rest x n e = (refl, e)
held false f rest x n e = absurd (n e)

pub case_yes {ℓ} : {A : Type ℓ} (t : Bool) (a b x : A) → t ≡ true → x ≡ a → x ≡ (t ⇒ a ∣ b)
unfolding ◌⇒◌∣◌
case_yes t a b x h e = subst⁻¹ (λ (q : Bool). x ≡ (q ⇒ a ∣ b)) h e

pub case_no {ℓ} : {A : Type ℓ} (t : Bool) (a b x : A) → t ≡ false → x ≡ b → x ≡ (t ⇒ a ∣ b)
unfolding ◌⇒◌∣◌
case_no t a b x h e = subst⁻¹ (λ (q : Bool). x ≡ (q ⇒ a ∣ b)) h e

-- which case a row came by
pub case_not {ℓ} : {A : Type ℓ} (t : Bool) (a b x : A) → t ≡ false → x ≡ (t ⇒ a ∣ b) → x ≡ b
unfolding ◌⇒◌∣◌
case_not t a b x h e = subst (λ (q : Bool). x ≡ (q ⇒ a ∣ b)) h e

pub case_is {ℓ} : {A : Type ℓ} (t : Bool) (a b x : A) → t ≡ true → x ≡ (t ⇒ a ∣ b) → x ≡ a
unfolding ◌⇒◌∣◌
case_is t a b x h e = subst (λ (q : Bool). x ≡ (q ⇒ a ∣ b)) h e

-- the first fault is there: it decides
pub stops : (n b x : ℕ) → (n ≡ 0 → ⊥) → x ≡ n → x ≡ (n ⨟ b)
unfolding ◌⨟◌
stops zero b x h e = absurd (h refl)
stops (suc n) b x h e = e

pub goes_on : (n b x : ℕ) → n ≡ 0 → x ≡ b → x ≡ (n ⨟ b)
unfolding ◌⨟◌
goes_on n b x h e = subst⁻¹ (λ (k : ℕ). x ≡ (k ⨟ b)) h e

-- no fault in the whole: none in either part
pub both : (n b : ℕ) → 0 ≡ (n ⨟ b) → (0 ≡ n) × (0 ≡ b)
unfolding ◌⨟◌
both zero b e = (refl, e)
both (suc n) b e = absurd (omega arith)

pub and_yes : (a b : Bool) → a ≡ true → b ≡ true → (a && b) ≡ true
and_yes a b p q = subst⁻¹ (λ (x : Bool). (x && b) ≡ true) p q

pub and_no : (a b : Bool) → a ≡ false → (a && b) ≡ false
and_no a b p = ap (λ (x : Bool). x && b) p

pub and_no' : (a b : Bool) → a ≡ true → b ≡ false → (a && b) ≡ false
and_no' a b p q = subst⁻¹ (λ (x : Bool). (x && b) ≡ false) p q

pub or_yes : (a b : Bool) → a ≡ true → (a || b) ≡ true
or_yes a b p = ap (λ (x : Bool). x || b) p

pub or_yes' : (a b : Bool) → a ≡ false → b ≡ true → (a || b) ≡ true
or_yes' a b p q = subst⁻¹ (λ (x : Bool). (x || b) ≡ true) p q

pub or_no : (a b : Bool) → a ≡ false → b ≡ false → (a || b) ≡ false
or_no a b p q = subst⁻¹ (λ (x : Bool). (x || b) ≡ false) p q

-- the number that was tested came from a call: a is the call's result
pub ne_via : (a a' b : ℕ) → a ≡ a' → (a ≡ b → ⊥) → eqb a' b ≡ false
ne_via a a' b e h = ne_eqb a' b (λ q. h (e ∙ q))

pub eq_via : (a a' b : ℕ) → a ≡ a' → a ≡ b → eqb a' b ≡ true
eq_via a a' b e h = eq-eqb a' b (sym e ∙ h)

-- a flag that a call gave
pub flag_yes : (a a' : Bool) → a ≡ a' → a ≡ true → a' ≡ true
flag_yes a a' e h = sym e ∙ h

pub flag_no : (a a' : Bool) → a ≡ a' → a ≡ false → a' ≡ false
flag_no a a' e h = sym e ∙ h

-- the same with the terms shown by the equations: nothing is left to find
pub ne_is : {a a' b b' : ℕ} → a ≡ a' → b ≡ b' → (a ≡ b → ⊥) → eqb a' b' ≡ false
ne_is {a' = a'} {b' = b'} p q h = ne_eqb a' b' (λ e. h (p ∙ (e ∙ sym q)))

pub eq_is : {a a' b b' : ℕ} → a ≡ a' → b ≡ b' → a ≡ b → eqb a' b' ≡ true
eq_is {a' = a'} {b' = b'} p q h = eq-eqb a' b' (sym p ∙ (h ∙ q))

pub ruleset rows = (
  refl,
  fails,
  passes,
  case_yes,
  case_no,
  and_yes,
  and_no,
  and_no',
  or_yes,
  or_yes',
  or_no,
  lt-ltb,
  le-ltb,
  le-leb,
  lt-leb,
  eq-eqb,
  ne_eqb,
  ne_via,
  eq_via,
  flag_yes,
  flag_no,
  arith,
)
