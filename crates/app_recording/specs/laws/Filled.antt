-- Laws of filled memory, in the forms that the code has.
use Rattle.std.specs.Prelude.{◌≡◌, ℕ, zero, suc, ◌+◌, ◌<◌, ◌≤◌, Bool, true, false, List, [], ◌∷◌, length, get_or, take, replicate, ℤ, pos, FitsSigned, ◌≢◌}
use Rattle.std.specs.Prelude.{slice_index_or, refl}
use Rattle.std.proofs.Common.{sym, ap, ◌∙◌, not-suc-le-zero, le_of_suc-le-suc, add-one, arith, take_all, ext_get_or, to_z, of_z, to_z-of_z}
use Rattle.std.specs.Int.{w32}
use Rattle.app_recording.specs.Filled.{Pictured, AllAre}

-- one number more that is v
take_more : (v : ℤ) (l : List ℤ) (i : ℕ) → i < length l → take i l ≡ replicate i v → slice_index_or l i (pos 0) ≡ v → take (suc i) l ≡ replicate (suc i) v
take_more v [] i h p e = absurd (not-suc-le-zero h)
take_more v (x ∷ l) zero h p e = ap (λ (y : ℤ). y ∷ []) e
take_more v (x ∷ l) (suc i) h p e =
    let q : x ≡ v = cc in
    let t : take i l ≡ replicate i v = cc in
    let m = take_more v l i (le_of_suc-le-suc h) t e in cc

pub all_more : (v : ℤ) (l : List ℤ) (i : ℕ) → i < length l → take i l ≡ replicate i v → slice_index_or l i (pos 0) ≡ v → take (i + 1) l ≡ replicate (i + 1) v
all_more v l i h p e = rw add-one (take_more v l i h p e)

-- two numbers of 32 bits with the same bits are the same
pub same_bits : (x v : ℤ) → FitsSigned w32 x → of_z w32 x ≡ of_z w32 v → x ≡ to_z w32 (of_z w32 v)
same_bits x v f e = sym (to_z-of_z f) ∙ ap (to_z w32) e

replicate_at : (v : ℤ) (n i : ℕ) → i < n → slice_index_or (replicate n v) i (pos 0) ≡ v
replicate_at v zero i h = absurd (not-suc-le-zero h)
replicate_at v (suc n) zero h = refl
replicate_at v (suc n) (suc i) h = replicate_at v n i (le_of_suc-le-suc h)

-- a number that is not v
pub not_all : (v : ℤ) (l : List ℤ) (i : ℕ) → i < length l → (of_z w32 (slice_index_or l i (pos 0)) ≢ of_z w32 v) → AllAre v l false
not_all v l i h n = record {
  all = λ e. absurd (let z : ◌≡◌ {A = ℕ} 0 1 = cc in omega arith);
  some = λ e p. n (ap (of_z w32) (ap (λ (t : List ℤ). get_or t i (pos 0)) p ∙ replicate_at v (length l) i h));
}

pub all_of : (v : ℤ) (l : List ℤ) (i : ℕ) → length l ≤ i → i ≤ length l → FitsSigned w32 v → take i l ≡ replicate i (to_z w32 (of_z w32 v)) → AllAre v l true
all_of v l i h g f p = record {
  all = λ e. let k : i ≡ length l = omega arith in cc (take_all i l h, to_z-of_z f);
  some = λ e q. let z : ◌≡◌ {A = ℕ} 0 1 = cc in omega arith;
}

-- ---- one picture, and one answer, alone meet the promises

pub pictured_once : {A : Type 0} (word_at : ℕ → A) (before a b : List A) → Pictured word_at before a → Pictured word_at before b → a ≡ b
pictured_once {A} word_at before [] [] p q = refl
pictured_once {A} word_at before [] (y ∷ b) p q = absurd (omega (arith, p.long, q.long))
pictured_once {A} word_at before (x ∷ a) b p q =
    ext_get_or x (x ∷ a) b (p.long ∙ sym q.long) (λ i h. let k : i < length before = omega (arith, h, p.long) in p.each i x k ∙ sym (q.each i x k))

pub all_are_once : (v : ℤ) (l : List ℤ) (r s : Bool) → AllAre v l r → AllAre v l s → r ≡ s
all_are_once v l true true p q = refl
all_are_once v l false false p q = refl
all_are_once v l true false p q = absurd (q.some refl (p.all refl))
all_are_once v l false true p q = absurd (p.some refl (q.all refl))
