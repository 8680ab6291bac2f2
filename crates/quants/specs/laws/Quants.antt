-- Laws of quantiser sets as bytes and of two sets.
-- Assumes nothing.
use Rattle.std.specs.Prelude.{ℕ, zero, suc, ◌+◌, ◌*◌, ◌/◌, ◌%◌, ◌≤◌, ◌<◌, ◌≡◌, refl, Bool, true, false, ◌&&◌, List, [], ◌∷◌, ◌++◌, eqb, length, get_or, take}
use Rattle.std.specs.Prelude.{drop}
use Rattle.std.proofs.Common.{ap, ap₂, ◌∙◌, arith, add-one, eqb-true, eq-eqb, ne_eqb, take-append-drop, length-drop, length-append, drop-cons, take_all}
use Rattle.std.proofs.Common.{take_at, drop_at}
use Rattle.std.proofs.Math.Path.{sym}
use Rattle.std.proofs.Math.Seq.{drop-nil}
use Rattle.whole.specs.laws.Row.{and_no, case_yes, case_no}
use Rattle.wire.specs.Le.{patch}
use Rattle.wire.specs.laws.Le.{patch_next}
use Rattle.bands.specs.Bands.{quant_of, QuantGood}
use Rattle.bands.specs.laws.Band.{five}
use Rattle.bands.specs.declared.Quant.{Quant}
use Rattle.quants.specs.Quants.{quant_bytes, alike, same, sets_of, chroma_index}
use Rattle.quants.specs.declared.Quants.{Quants}

-- ---- a set of ten

pub cells : (q : List ℕ) → length q ≡ 10 →
    q ≡ get_or q 0 0 ∷ get_or q 1 0 ∷ get_or q 2 0 ∷ get_or q 3 0 ∷ get_or q 4 0 ∷ get_or q 5 0 ∷ get_or q 6 0 ∷ get_or q 7 0 ∷ get_or q 8 0 ∷ get_or q 9 0 ∷ []
cells q l =
    let s : length (drop 5 q) ≤ 5 = omega (arith, length-drop 5 q) in
    sym (take-append-drop 5 q) ∙ ap₂ (λ (x y : List ℕ). x ++ y) (five q 0 (omega arith)) (sym (take_all 5 (drop 5 q) s) ∙ five q 5 (omega arith))

-- its bytes, by the places
pub set_bytes : (q : List ℕ) → length q ≡ 10 →
    quant_bytes q ≡ (get_or q 0 0 + 16 * get_or q 1 0) ∷ (get_or q 2 0 + 16 * get_or q 3 0) ∷ (get_or q 4 0 + 16 * get_or q 5 0) ∷
    (get_or q 6 0 + 16 * get_or q 7 0)
    ∷ (get_or q 8 0 + 16 * get_or q 9 0) ∷ []
unfolding quant_bytes
set_bytes q l = ap quant_bytes (cells q l)

pub set_five : (q : List ℕ) → length q ≡ 10 → length (quant_bytes q) ≡ 5
set_five q l = ap length (set_bytes q l)

-- two values are a byte
pub pairs_long : (n : ℕ) (q : List ℕ) → length q ≡ 2 * n → length (quant_bytes q) ≡ n
unfolding quant_bytes
pairs_long zero [] l = refl
pairs_long zero (a ∷ q) l = absurd (omega arith)
pairs_long (suc n) [] l = absurd (omega arith)
pairs_long (suc n) (a ∷ []) l = absurd (omega arith)
pairs_long (suc n) (a ∷ b ∷ q) l = ap suc (pairs_long n q (omega arith))

-- ---- what was written is read: values below 16 come back, of any number of sets

data Halves : List ℕ → Type 0 where
  none : Halves []
  more : (a b : ℕ) (q : List ℕ) → a < 16 → Halves q → Halves (a ∷ b ∷ q)

halves_back : {q : List ℕ} → Halves q → quant_of (quant_bytes q) ≡ q
unfolding quant_of quant_bytes
halves_back none = refl
halves_back (more a b q h r) =
    let m : (a + 16 * b) % 16 ≡ a = omega arith in
    let d : (a + 16 * b) / 16 ≡ b = omega arith in
    rw (m, d, halves_back r)

pub quant_back : (q : List ℕ) → length q ≡ 10 → QuantGood q → quant_of (quant_bytes q) ≡ q
unfolding quant_of quant_bytes
quant_back q l g =
    ap (λ (x : List ℕ). quant_of (quant_bytes x)) (cells q l)
    ∙ (halves_back (more _ _ _ (low 0 (omega arith)) (more _ _ _ (low 2 (omega arith)) (more _ _ _ (low 4 (omega arith)) (more _ _ _ (low 6 (omega arith))
    (more _ _ _ (low 8 (omega arith)) none)))))
    ∙ sym (cells q l))
  where
    low : (k : ℕ) → k < 10 → get_or q k 0 < 16
    low k h = omega (arith, g.high k h)

-- the same in front of anything
pub set_read : (q rest : List ℕ) → length q ≡ 10 → QuantGood q → quant_of (take 5 (quant_bytes q ++ rest)) ≡ q
set_read q rest l g = ap quant_of (take_at (quant_bytes q) rest 5 (set_five q l)) ∙ quant_back q l g

-- ---- two sets

both_true : (a b : Bool) → (a && b) ≡ true → (a ≡ true) × (b ≡ true)
both_true true b e = (refl, e)
both_true false b e = absurd (let z : ◌≡◌ {A = ℕ} 0 1 = cc in omega arith)

pub alike_is : (a b : List ℕ) → alike a b ≡ true → a ≡ b
unfolding alike
alike_is [] [] e = refl
alike_is [] (b ∷ ys) e = absurd (let z : ◌≡◌ {A = ℕ} 0 1 = cc in omega arith)
alike_is (a ∷ xs) [] e = absurd (let z : ◌≡◌ {A = ℕ} 0 1 = cc in omega arith)
alike_is (a ∷ xs) (b ∷ ys) e =
    let t = both_true (eqb a b) (alike xs ys) e in
    ap₂ (λ (z : ℕ) (zs : List ℕ). z ∷ zs) (eqb-true a b t.0) (alike_is xs ys t.1)

pub is_alike : (a : List ℕ) → alike a a ≡ true
unfolding alike
is_alike [] = refl
is_alike (a ∷ xs) = rw (eq-eqb a a refl, is_alike xs)

-- equal sets are one set
pub same_is : (q : Quants) → same q ≡ true → q.luma ≡ q.chroma
unfolding same
same_is q e = ap (λ (v : List ℕ). record { v = v }) (alike_is q.luma.v q.chroma.v e)

pub is_same : (q : Quant) → same (record { luma = q; chroma = q }) ≡ true
unfolding same
is_same q = is_alike q.v

-- from one place on
pub alike_step : (a b : List ℕ) (i : ℕ) → i < length a → i < length b →
    alike (drop i a) (drop i b) ≡ (eqb (get_or a i 0) (get_or b i 0) && alike (drop (i + 1) a) (drop (i + 1) b))
unfolding alike
alike_step a b i h k = rw (drop-cons a i 0 h, drop-cons b i 0 k, add-one)

pub drop_all : (l : List ℕ) (n : ℕ) → length l ≤ n → drop n l ≡ []
drop_all [] n h = drop-nil n
drop_all (x ∷ l) zero h = absurd (omega arith)
drop_all (x ∷ l) (suc n) h = drop_all l n (omega arith)

-- and what the loop over the places comes to: a difference, one more that is equal, all passed
module _ (a b : List ℕ) (i : ℕ) where
  pub alike_off : i < length a → i < length b → alike a b ≡ alike (drop i a) (drop i b) → (get_or a i 0 ≡ get_or b i 0 → ⊥) → false ≡ alike a b
  alike_off h k e d = sym (e ∙ (alike_step a b i h k ∙ and_no _ _ (ne_eqb (get_or a i 0) (get_or b i 0) d)))

  pub alike_on : i < length a → i < length b → alike a b ≡ alike (drop i a) (drop i b) → get_or a i 0 ≡ get_or b i 0 →
      alike a b ≡ alike (drop (i + 1) a) (drop (i + 1) b)
  alike_on h k e d = e ∙ (alike_step a b i h k ∙ ap (λ (t : Bool). t && alike (drop (i + 1) a) (drop (i + 1) b)) (eq-eqb (get_or a i 0) (get_or b i 0) d))

  pub alike_all : length a ≤ i → length b ≤ i → alike a b ≡ alike (drop i a) (drop i b) → true ≡ alike a b
  unfolding alike
  alike_all h k e = sym (e ∙ rw (drop_all a i h, drop_all b i k))

-- ---- the sets of a frame

by_sets : {A : Type 0} (b : Bool) → (b ≡ true → A) → (b ≡ false → A) → A
by_sets true y n = y refl
by_sets false y n = n refl

-- bytes of whole pairs, one behind the other
pub pairs_behind : (n : ℕ) (a b : List ℕ) → length a ≡ 2 * n → quant_bytes (a ++ b) ≡ quant_bytes a ++ quant_bytes b
unfolding quant_bytes
pairs_behind zero [] b l = refl
pairs_behind zero (x ∷ a) b l = absurd (omega arith)
pairs_behind (suc n) [] b l = absurd (omega arith)
pairs_behind (suc n) (x ∷ []) b l = absurd (omega arith)
pairs_behind (suc n) (x ∷ y ∷ a) b l = ap (λ (z : List ℕ). (x + 16 * y) ∷ z) (pairs_behind n a b (omega arith))

module _ (q : Quants) where
  pub sets_one : same q ≡ true → sets_of q ≡ q.luma.v
  unfolding sets_of
  sets_one e = sym (case_yes _ _ _ _ e refl)

  pub sets_two : same q ≡ false → sets_of q ≡ q.luma.v ++ q.chroma.v
  unfolding sets_of
  sets_two e = sym (case_no _ _ _ _ e refl)

  pub index_one : same q ≡ true → chroma_index q ≡ 0
  unfolding chroma_index
  index_one e = sym (case_yes _ _ _ _ e refl)

  pub index_two : same q ≡ false → chroma_index q ≡ 1
  unfolding chroma_index
  index_two e = sym (case_no _ _ _ _ e refl)

  module _ (l : length q.luma.v ≡ 10) (k : length q.chroma.v ≡ 10) where
    pub two_bytes : same q ≡ false → quant_bytes (sets_of q) ≡ quant_bytes q.luma.v ++ quant_bytes q.chroma.v
    two_bytes e = ap quant_bytes (sets_two e) ∙ pairs_behind 5 q.luma.v q.chroma.v l

    -- how many values they have
    pub sets_tens : length (sets_of q) ≡ 10 * (1 + chroma_index q)
    sets_tens = by_sets (same q) (λ e. omega (arith, ap length (sets_one e), index_one e))
        (λ e. omega (arith, ap length (sets_two e), length-append q.luma.v q.chroma.v, index_two e))

    -- luma's five bytes stand first, chroma's where its index says
    pub luma_at : take 5 (quant_bytes (sets_of q)) ≡ quant_bytes q.luma.v
    luma_at = by_sets (same q) (λ e. ap (λ (v : List ℕ). take 5 (quant_bytes v)) (sets_one e) ∙ take_all 5 _ (omega (arith, set_five q.luma.v l)))
        (λ e. ap (take 5) (two_bytes e) ∙ take_at _ _ 5 (set_five q.luma.v l))

    pub chroma_at : take 5 (drop (5 * chroma_index q) (quant_bytes (sets_of q))) ≡ quant_bytes q.chroma.v
    chroma_at = by_sets (same q)
        (λ e. rw (index_one e) (luma_at ∙ ap (λ (x : Quant). quant_bytes x.v) (same_is q e)))
        (λ e. rw (index_two e) (ap (λ (bs : List ℕ). take 5 (drop 5 bs)) (two_bytes e)
        ∙ (ap (take 5) (drop_at (quant_bytes q.luma.v) (quant_bytes q.chroma.v) 5 (set_five q.luma.v l))
        ∙ take_all 5 (quant_bytes q.chroma.v) (omega (arith, set_five q.chroma.v k)))))

    -- and as they are put
    pub one_put : (o x : List ℕ) (at : ℕ) → same q ≡ true → x ≡ patch o at (quant_bytes q.luma.v) → x ≡ patch o at (quant_bytes (sets_of q))
    one_put o x at e p = p ∙ ap (λ (v : List ℕ). patch o at (quant_bytes v)) (sym (sets_one e))

    pub two_put : (o x y : List ℕ) (at : ℕ) → same q ≡ false → at ≤ length o → x ≡ patch o at (quant_bytes q.luma.v) →
        y ≡ patch x (at + 5) (quant_bytes q.chroma.v) → y ≡ patch o at (quant_bytes (sets_of q))
    two_put o x y at e h p r =
        patch_next x y o (quant_bytes q.luma.v) (quant_bytes q.chroma.v) at (at + 5) p r (omega (arith, set_five q.luma.v l)) h
        ∙ ap (patch o at) (sym (two_bytes e))
