-- Numbers between two others: the range of a component's numbers (9), and lists so slight that their code is short (laws/Length).
-- Assumes nothing.
use Prim.Native.Nat.{ℕ, zero, suc, ◌+◌, ◌-◌, ◌≤◌, ◌<◌, ◌^◌}
use Rattle.std.specs.Prelude.{◌≡◌, refl, Bool, true, false, ◌&&◌, List, [], ◌∷◌, leb, ℤ, pos, negsuc, nat_abs, length, take}
use Rattle.std.proofs.Common.{sym, ap, ap₂, subst, ◌∙◌, add-one, le-leb, leb-true, leb-false, ltb-true, ltb-false, length-take, length-drop, drop-cons}
use Rattle.std.proofs.Common.{drop_of_length-le, get_or-take, get_or-drop, SFits, of_z, to_z, to_z-of_z}
use native.Mathlib.Omega.{arith}
use Rattle.std.proofs.lemmas.Bool.{lt-leb}
use Rattle.std.specs.Int.Signed.{lt_z, le_z, mag}
use Rattle.std.proofs.Math.ListN.{drop, get_or}
use Rattle.std.specs.Int.{w32}
use Rattle.whole.specs.Row.{◌!◌⨾◌}
use Rattle.code_write.specs.Write.{all_in_range}

-- one number, and every number of a list
abbrev pub is_from : ℤ → ℤ → ℤ → Bool
is_from least most z = le_z least z && le_z z most

unfoldable pub all_from : ℤ → ℤ → List ℤ → Bool
all_from least most [] = true
all_from least most (z ∷ zs) = is_from least most z && all_from least most zs

-- ---- one number's test by two

below : (x a : ℤ) → lt_z x a ≡ true → false ≡ le_z a x
below (pos n) (pos m) e = sym (lt-leb m n (ltb-true n m e))
below (pos n) (negsuc m) e = absurd (let y : ◌≡◌ {A = ℕ} 0 1 = cc in omega arith)
below (negsuc n) (pos m) e = refl
below (negsuc n) (negsuc m) e = sym (lt-leb n m (ltb-true m n e))

not_below : (x a : ℤ) → lt_z x a ≡ false → true ≡ le_z a x
not_below (pos n) (pos m) e = sym (le-leb m n (ltb-false n m e))
not_below (pos n) (negsuc m) e = refl
not_below (negsuc n) (pos m) e = absurd (let y : ◌≡◌ {A = ℕ} 0 1 = cc in omega arith)
not_below (negsuc n) (negsuc m) e = sym (le-leb n m (ltb-false m n e))

-- by the machine's numbers
again : {z : ℤ} → SFits w32 z → to_z w32 (of_z w32 z) ≡ z
again f = to_z-of_z f

module _ (x least most : ℤ) (fx : SFits w32 x) (fl : SFits w32 least) (fm : SFits w32 most) where
  pub from_low : lt_z (to_z w32 (of_z w32 x)) (to_z w32 (of_z w32 least)) ≡ true → false ≡ is_from least most x
  from_low h = let e = rw (again fx, again fl) at h in ap (λ (b : Bool). b && le_z x most) (below x least e)

  pub from_high : lt_z (to_z w32 (of_z w32 x)) (to_z w32 (of_z w32 least)) ≡ false → le_z (to_z w32 (of_z w32 x)) (to_z w32 (of_z w32 most)) ≡ is_from least
      most x
  from_high h =
      let e = rw (again fx, again fl) at h in
      rw (again fx, again fm) (ap (λ (b : Bool). b && le_z x most) (not_below x least e))

-- of a number that was read from a list
pub from_read : (x least most : ℤ) (r : Bool) → mag x < 2 ^ 31 → r ≡ is_from least most (to_z w32 (of_z w32 x)) → is_from least most x ≡ r
from_read x least most r f h =
    let fits : SFits w32 x = record { sfits = f } in
    let e = rw (again fits) at h in sym e

-- of bounds that a loop was given
pub from_given : (least most : ℤ) (zs : List ℤ) → SFits w32 least → SFits w32 most →
    all_from (to_z w32 (of_z w32 least)) (to_z w32 (of_z w32 most)) zs ≡ all_from least most zs
from_given least most zs fl fm = rw (again fl, again fm) refl

-- ---- numbers one after the other

and_three : (a b c : Bool) → (a && (b && c)) ≡ ((a && b) && c)
and_three true b c = refl
and_three false b c = refl

both-are : (a b : Bool) → (a && b) ≡ true → (a ≡ true) × (b ≡ true)
both-are true b e = (refl, e)
both-are false b e = absurd (let y : ◌≡◌ {A = ℕ} 0 1 = cc in omega arith)

and_true : (a : Bool) → a ≡ (a && true)
and_true true = refl
and_true false = refl

module _ (least most : ℤ) (zs : List ℤ) where
  pub span_next : (i : ℕ) (good n : Bool) → i < length zs → is_from least most (get_or zs i (pos 0)) ≡ n →
      (good && all_from least most (drop i zs)) ≡ ((good && n) && all_from least most (drop (i + 1) zs))
  unfolding all_from
  span_next i good n h e =
      let d : drop i zs ≡ get_or zs i (pos 0) ∷ drop (i + 1) zs = rw (add-one i) (drop-cons zs i (pos 0) h) in
      rw d (ap (λ (b : Bool). good && (b && all_from least most (drop (i + 1) zs))) e ∙ and_three good n _)

  pub span_past : (i : ℕ) (good : Bool) → length zs ≤ i → good ≡ (good && all_from least most (drop i zs))
  unfolding all_from
  span_past i good h = rw (drop_of_length-le zs h) (and_true good)

  -- up to any place
  pub span_next_to : (i to : ℕ) (good n : Bool) → i < to → to ≤ length zs → is_from least most (get_or zs i (pos 0)) ≡ n →
      (good && all_from least most (take (to - i) (drop i zs))) ≡ ((good && n) && all_from least most (take (to - (i + 1)) (drop (i + 1) zs)))
  unfolding all_from
  span_next_to i to good n h l e =
      let k : to - i ≡ suc (to - (i + 1)) = omega arith in
      let d : drop i zs ≡ get_or zs i (pos 0) ∷ drop (i + 1) zs = rw (add-one i) (drop-cons zs i (pos 0) (omega arith)) in
      rw (k, d) (ap (λ (b : Bool). good && (b && all_from least most (take (to - (i + 1)) (drop (i + 1) zs)))) e ∙ and_three good n _)

  pub span_past_to : (i to : ℕ) (good : Bool) → to ≤ i → good ≡ (good && all_from least most (take (to - i) (drop i zs)))
  unfolding all_from
  span_past_to i to good h =
      let k : to - i ≡ 0 = omega arith in
      rw k (and_true good)

all_at : (least most : ℤ) (zs : List ℤ) → all_from least most zs ≡ true → (i : ℕ) → i < length zs → is_from least most (get_or zs i (pos 0)) ≡ true
unfolding all_from
all_at least most [] e i h = absurd (omega arith)
all_at least most (z ∷ zs) e zero h = (both-are (is_from least most z) (all_from least most zs) e).0
all_at least most (z ∷ zs) e (suc i) h = all_at least most zs (both-are (is_from least most z) (all_from least most zs) e).1 i (omega arith)

-- ---- within a number, on both sides of 0

within : (m : ℕ) (z : ℤ) → is_from (negsuc m) (pos (suc m)) z ≡ leb (nat_abs z) (suc m)
within m (pos n) = refl
within m (negsuc n) = sym (and_true (leb n m)) ∙ go (leb n m) refl
  where
    go : (b : Bool) → leb n m ≡ b → b ≡ leb (suc n) (suc m)
    go true e = sym (le-leb (suc n) (suc m) (omega (arith, leb-true n m e)))
    go false e = sym (lt-leb (suc n) (suc m) (omega (arith, leb-false n m e)))

-- 9's range
pub span_range : (zs : List ℤ) → all_from (negsuc 32766) (pos 32767) zs ≡ all_in_range zs
unfolding all_from all_in_range ◌!◌⨾◌
span_range [] = refl
span_range (z ∷ zs) = ap₂ (λ (a b : Bool). a && b) (within 32766 z) (span_range zs) ∙ go (leb (nat_abs z) 32767) (all_in_range zs)
  where
    go : (a b : Bool) → (a && b) ≡ (a ! false ⨾ b)
    go true b = refl
    go false b = refl

-- ---- slight lists: the last 64 numbers within 1,536, the others within 512

unfoldable pub is_slight : List ℤ → Bool
is_slight zs = all_from (negsuc 511) (pos 512) (take 4032 zs) && all_from (negsuc 1535) (pos 1536) (take 64 (drop 4032 zs))

pub record Slight (zs : List ℤ) : Type 0 where
  pub long : length zs ≡ 4096
  pub front : (k : ℕ) → k < 4032 → nat_abs (get_or zs k (pos 0)) ≤ 512
  pub last : (k : ℕ) → 4032 ≤ k → k < 4096 → nat_abs (get_or zs k (pos 0)) ≤ 1536

span_at : (m from n : ℕ) (zs : List ℤ) → from + n ≤ length zs → all_from (negsuc m) (pos (suc m)) (take n (drop from zs)) ≡ true →
    (i : ℕ) → i < n → nat_abs (get_or zs (from + i) (pos 0)) ≤ suc m
span_at m from n zs l e i h =
    let a = all_at (negsuc m) (pos (suc m)) (take n (drop from zs)) e i (omega (arith, length-take n (drop from zs), length-drop from zs)) in
    let q = get_or-take n (drop from zs) i (pos 0) h ∙ get_or-drop from zs i (pos 0) in
    leb-true _ _ (sym (within m (get_or zs (from + i) (pos 0))) ∙ subst (λ (z : ℤ). is_from (negsuc m) (pos (suc m)) z ≡ true) q a)

pub slight_is : (zs : List ℤ) → length zs ≡ 4096 → is_slight zs ≡ true → Slight zs
unfolding is_slight
slight_is zs l e =
    let h = both-are _ _ e in
    record {
      long = l;
      front = λ k a. subst (λ (i : ℕ). nat_abs (get_or zs i (pos 0)) ≤ 512) (omega arith) (span_at 511 0 4032 zs (omega arith) h.0 k a);
      last = λ k a b.
          subst (λ (i : ℕ). nat_abs (get_or zs i (pos 0)) ≤ 1536) (omega arith) (span_at 1535 4032 64 zs (omega arith) h.1 (k - 4032) (omega arith));
    }
