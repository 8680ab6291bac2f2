-- Laws of folding, and the forms that the code of folded and unfolded has.
use Rattle.std.specs.Prelude.{ℕ, zero, suc, ◌+◌, ◌*◌, ◌-◌, ◌/◌, ◌%◌, ◌≤◌, ◌<◌, ◌^◌, ◌≡◌, get_or, Bool, ℤ, nat_abs, ◌-ℤ◌}
use Rattle.std.proofs.Math.Path.{refl, ap, ap₂}
use Rattle.std.proofs.Common.{sym, subst, ◌∙◌, arith, to_z, of_z, SFits, to_z-of_z}
use mathlib.Core.List.{List, [], ◌∷◌, map}
use Rattle.std.proofs.Math.ListN.{get_or-map}
use Rattle.code.specs.Code.{InRange}
use Rattle.std.proofs.Math.Bool.{true, false}
use Rattle.std.proofs.Math.IntN.{pos, negsuc}
use Rattle.std.proofs.Math.Dec.{eqb}
use Rattle.std.specs.Int.{w32}
use Rattle.std.specs.Int.Signed.{lt_z}
use Rattle.code.specs.Fold.{fold_z, unfold_by, unfold_z}
use borrow.Author.Tests.{lt-ltb, le-ltb, ltb-true, eqb-true, eqb-false, eq-eqb, ne_eqb}

pub unfold_even : (v : ℕ) → v % 2 ≡ 0 → unfold_z v ≡ pos (v / 2)
unfolding unfold_z
unfold_even v e = rw (eq-eqb (v % 2) 0 e)

pub unfold_odd : (v : ℕ) → (v % 2 ≡ 0 → ⊥) → unfold_z v ≡ negsuc (v / 2)
unfolding unfold_z
unfold_odd v e = rw (ne_eqb (v % 2) 0 e)

pub fold_unfold : (v : ℕ) → fold_z (unfold_z v) ≡ v
unfolding unfold_z fold_z
fold_unfold v = go (eqb (v % 2) 0) refl
  where
    go : (b : Bool) → eqb (v % 2) 0 ≡ b → fold_z (unfold_by b (v / 2)) ≡ v
    go true e = omega (arith, eqb-true (v % 2) 0 e)
    go false e = omega (arith, eqb-false (v % 2) 0 e)

pub unfold_fold : (z : ℤ) → unfold_z (fold_z z) ≡ z
unfolding fold_z
unfold_fold (pos n) = unfold_even (n * 2) (omega arith) ∙ ap pos (omega arith)
unfold_fold (negsuc n) = unfold_odd (n * 2 + 1) (λ e. omega arith) ∙ ap negsuc (omega arith)

-- ---- lists

pub map_unfold : (zs : List ℤ) → map unfold_z (map fold_z zs) ≡ zs
map_unfold [] = refl
map_unfold (z ∷ zs) = ap₂ (λ (y : ℤ) (t : List ℤ). y ∷ t) (unfold_fold z) (map_unfold zs)

pub map_fold : (xs : List ℕ) → map fold_z (map unfold_z xs) ≡ xs
map_fold [] = refl
map_fold (x ∷ xs) = ap₂ (λ (y : ℕ) (t : List ℕ). y ∷ t) (fold_unfold x) (map_fold xs)

pub fold_at : (zs : List ℤ) (i : ℕ) → get_or (map fold_z zs) i 0 ≡ fold_z (get_or zs i (pos 0))
unfolding fold_z
fold_at zs i = get_or-map fold_z zs i (pos 0)

-- from -32,767 to 32,767 is folded from 0 to 65,534; -32,768 is folded 65,535
pub near_fold : (z : ℤ) → nat_abs z ≤ 32767 → fold_z z ≤ 65534
unfolding fold_z
near_fold (pos n) h = omega arith
near_fold (negsuc n) h = omega arith

pub fold_near : (z : ℤ) → fold_z z ≤ 65534 → nat_abs z ≤ 32767
unfolding fold_z
fold_near (pos n) h = omega arith
fold_near (negsuc n) h = omega arith

pub range_fold : (zs : List ℤ) → ((i : ℕ) → nat_abs (get_or zs i (pos 0)) ≤ 32767) → InRange (map fold_z zs)
range_fold zs h i = subst (λ (n : ℕ). n ≤ 65534) (sym (fold_at zs i)) (near_fold (get_or zs i (pos 0)) (h i))

pub fold_range : (zs : List ℤ) → InRange (map fold_z zs) → (i : ℕ) → nat_abs (get_or zs i (pos 0)) ≤ 32767
fold_range zs h i = fold_near (get_or zs i (pos 0)) (subst (λ (n : ℕ). n ≤ 65534) (fold_at zs i) (h i))

-- -1 - n
pub minus : (n : ℕ) → negsuc 0 -ℤ pos n ≡ negsuc n
minus zero = refl
minus (suc n) = ap negsuc (omega arith)

-- ---- the code's forms: the bits of a small number, read as signed
pub small_to_z : (n : ℕ) → n < 2 ^ 31 → to_z w32 n ≡ pos n
small_to_z n h = rw (lt-ltb n (2 ^ 31) h)

pub less_one : (n : ℕ) → n < 2 ^ 31 → negsuc 0 -ℤ to_z w32 n ≡ negsuc n
less_one n h = rw (small_to_z n h) (minus n)

pub less_fits : (n : ℕ) → n < 2 ^ 31 → SFits w32 (negsuc 0 -ℤ to_z w32 n)
less_fits n h = rw (less_one n h) (record { sfits = h })

pub less_is : (n : ℕ) → n < 2 ^ 31 → to_z w32 (of_z w32 (negsuc 0 -ℤ to_z w32 n)) ≡ negsuc n
less_is n h = to_z-of_z (less_fits n h) ∙ less_one n h

-- ---- a signed number taken apart: what the code's test and its two subtractions see
pub record Negative (x : ℤ) : Type 0 where
  pub n : ℕ
  pub is : x ≡ negsuc n
  pub less : to_z w32 (of_z w32 (negsuc 0 -ℤ to_z w32 (of_z w32 x))) ≡ pos n
  pub fits : SFits w32 (negsuc 0 -ℤ to_z w32 (of_z w32 x))

up_one : (n : ℕ) → negsuc 0 -ℤ negsuc n ≡ pos n
up_one n = let e : suc n - 1 ≡ n = omega arith in rw (le-ltb (suc n) 1 (omega arith)) (ap pos e)

pub negative : (x : ℤ) → SFits w32 x → lt_z (to_z w32 (of_z w32 x)) (pos 0) ≡ true → Negative x
negative x f e = go x f (rw (to_z-of_z f) at e)
  where
    go : (x : ℤ) → SFits w32 x → lt_z x (pos 0) ≡ true → Negative x
    go (pos n) f e = absurd (omega (arith, ltb-true n 0 e))
    go (negsuc n) f e =
        let b : negsuc 0 -ℤ to_z w32 (of_z w32 (negsuc n)) ≡ pos n = rw (to_z-of_z f) (up_one n) in
        let s : SFits w32 (negsuc 0 -ℤ to_z w32 (of_z w32 (negsuc n))) = rw b (record { sfits = f.sfits }) in
        record { n = n; is = refl; less = to_z-of_z s ∙ b; fits = s }

pub positive : (x : ℤ) → SFits w32 x → lt_z (to_z w32 (of_z w32 x)) (pos 0) ≡ false → (n : ℕ) × (x ≡ pos n) × (to_z w32 (of_z w32 x) ≡ pos n)
positive x f e = go x f (rw (to_z-of_z f) at e)
  where
    go : (x : ℤ) → SFits w32 x → lt_z x (pos 0) ≡ false → (n : ℕ) × (x ≡ pos n) × (to_z w32 (of_z w32 x) ≡ pos n)
    go (pos n) f e = (n, refl, to_z-of_z f)
    go (negsuc n) f e = let z : ◌≡◌ {A = ℕ} 0 1 = cc in absurd (omega arith)
