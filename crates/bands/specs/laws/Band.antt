-- Laws of the bands: which places share a quantiser, and quantisers that are good.
-- Assumes nothing.
use Rattle.std.specs.Prelude.{◌≡◌, refl, Bool, true, false, ◌&&◌, List, [], ◌∷◌, ℕ, zero, suc, ◌+◌, ◌*◌, ◌-◌, ◌%◌, ◌^◌, ◌≤◌, ◌<◌, ltb, leb, eqb, pos, length}
use Rattle.std.specs.Prelude.{get_or, take, drop}
use Rattle.std.proofs.Common.{sym, ◌∙◌, ap, subst, not-suc-le-zero, one-mul, arith, ltb-true, leb-true, eqb-true, lt-ltb, le-ltb, le-leb, lit<, drop-cons}
use Rattle.std.proofs.Common.{add-one, pow_mono, shl_exact}
use Rattle.std.proofs.Math.Decide.{dec_lt, ℕ_discrete}
use Rattle.std.proofs.lemmas.Bool.{lt-leb}
use Rattle.std.proofs.Math.Pow.{pow-lt}
use Rattle.whole.specs.Row.{◌⇒◌∣◌}
use Rattle.whole.specs.laws.Row.{case_yes, case_no}
use Rattle.whole.specs.laws.Near.{Near}
use Rattle.bands.specs.declared.Band.{Band}
use Rattle.bands.specs.Bands.{bands, first_band, band_at, band_of, quant_at, good_to, is_good, QuantGood}

-- ---- the table of bands

both_true : (a b : Bool) → (a && b) ≡ true → (a ≡ true) × (b ≡ true)
both_true true b e = (refl, e)
both_true false b e = absurd (let z : ◌≡◌ {A = ℕ} 0 1 = cc in omega arith)

-- what a place's band has: an index into the set, and an end behind the place and within the list; the bands before LL3 end before it
pub record BandGood (k : ℕ) (b : Band) : Type 0 where
  pub index : b.set < 10
  pub behind : k < 4096 → k < b.end
  pub within : b.end ≤ 4096
  pub before : k < 4032 → b.end ≤ 4032

-- the test of a table that starts at a place: indices below 10, ends up to 4,032, and the last one there
table_good : ℕ → List Band → Bool
table_good from [] = eqb from 4032
table_good from (b ∷ bs) = ltb b.set 10 && (leb b.end 4032 && table_good b.end bs)

found_good : (from k : ℕ) (bs : List Band) → table_good from bs ≡ true → from ≤ k → BandGood k (first_band bs k)
unfolding table_good first_band
found_good from k [] t l =
    let e = eqb-true from 4032 t in
    record { index = omega arith; behind = λ h. h; within = omega arith; before = λ h. absurd (omega arith) }
found_good from k (b ∷ bs) t l =
    let i = both_true (ltb b.set 10) _ t in
    let e = both_true (leb b.end 4032) _ i.1 in
    by (ltb-true b.set 10 i.0) (leb-true b.end 4032 e.0) (dec_lt k b.end) (found_good b.end k bs e.1)
  where
    by : b.set < 10 → b.end ≤ 4032 → Dec (k < b.end) → (b.end ≤ k → BandGood k (first_band bs k)) → BandGood k (ltb k b.end ⇒ b ∣ first_band bs k)
    by i e (yes h) rest = subst (BandGood k) (case_yes (ltb k b.end) b (first_band bs k) b (lt-ltb k b.end h) refl)
        (record { index = i; behind = λ q. h; within = omega arith; before = λ q. e })
    by i e (no h) rest = subst (BandGood k) (case_no (ltb k b.end) b (first_band bs k) (first_band bs k) (le-ltb k b.end (omega arith)) refl)
        (rest (omega arith))

pub band_good : (k : ℕ) → BandGood k (band_at k)
unfolding band_at bands table_good
band_good k = found_good 0 k bands refl (omega arith)

pub band_below : (k : ℕ) → band_of k < 10
band_below k = (band_good k).index

-- the same of the band that a call gave
pub band_is : {k : ℕ} {b : Band} → b ≡ band_at k → BandGood k b
band_is {k} e = subst (BandGood k) (sym e) (band_good k)

-- and its quantiser is the place's
pub quant_is : (q : List ℕ) (k n : ℕ) (b : Band) → n ≡ get_or q b.set 0 → b ≡ band_at k → n ≡ quant_at q k
quant_is q k n b e f = e ∙ ap (λ (x : Band). get_or q x.set 0) f

-- from a place to the end of its band all places are in that band
found_same : (bs : List Band) (a k : ℕ) → a ≤ k → k < (first_band bs a).end → first_band bs k ≡ first_band bs a
unfolding first_band
found_same [] a k l h = refl
found_same (b ∷ bs) a k l h = by (dec_lt a b.end) (found_same bs a k l)
  where
    by : Dec (a < b.end) → (k < (first_band bs a).end → first_band bs k ≡ first_band bs a) →
        (ltb k b.end ⇒ b ∣ first_band bs k) ≡ (ltb a b.end ⇒ b ∣ first_band bs a)
    by (yes u) rest =
        let y : b ≡ (ltb a b.end ⇒ b ∣ first_band bs a) = case_yes (ltb a b.end) b (first_band bs a) b (lt-ltb a b.end u) refl in
        let v : k < b.end = subst (λ (x : Band). k < x.end) (sym y) h in
        sym (case_yes (ltb k b.end) b (first_band bs k) b (lt-ltb k b.end v) refl) ∙ y
    by (no u) rest =
        let y : first_band bs a ≡ (ltb a b.end ⇒ b ∣ first_band bs a) =
        case_no (ltb a b.end) b (first_band bs a) (first_band bs a) (le-ltb a b.end (omega arith)) refl in
        sym (case_no (ltb k b.end) b (first_band bs k) (first_band bs k) (le-ltb k b.end (omega arith)) refl)
        ∙ (rest (subst (λ (x : Band). k < x.end) (sym y) h) ∙ y)

pub same_band : (a k : ℕ) → a ≤ k → k < (band_at a).end → band_at k ≡ band_at a
unfolding band_at
same_band a k l h = found_same bands a k l h

-- and share its quantiser
pub same_quant : (q : List ℕ) (a k : ℕ) → a ≤ k → k < (band_at a).end → quant_at q a ≡ quant_at q k
same_quant q a k l h = ap (λ (b : Band). get_or q b.set 0) (sym (same_band a k l h))

-- ---- five bytes of a message

take_more : (m : List ℕ) (n a b : ℕ) → a < length m → b ≡ a + 1 → take (suc n) (drop a m) ≡ get_or m a 0 ∷ take n (drop b m)
take_more m n a b h e = ap (take (suc n)) (drop-cons m a 0 h) ∙ ap (λ (k : ℕ). get_or m a 0 ∷ take n (drop k m)) (sym (e ∙ add-one a))

pub five : (m : List ℕ) (a : ℕ) → a + 5 ≤ length m →
    take 5 (drop a m) ≡ get_or m a 0 ∷ get_or m (a + 1) 0 ∷ get_or m (a + 2) 0 ∷ get_or m (a + 3) 0 ∷ get_or m (a + 4) 0 ∷ []
five m a h =
    take_more m 4 a (a + 1) (omega arith) refl
    ∙ ap (λ (l : List ℕ). get_or m a 0 ∷ l) (take_more m 3 (a + 1) (a + 2) (omega arith) (omega arith)
    ∙ ap (λ (l : List ℕ). get_or m (a + 1) 0 ∷ l) (take_more m 2 (a + 2) (a + 3) (omega arith) (omega arith)
    ∙ ap (λ (l : List ℕ). get_or m (a + 2) 0 ∷ l) (take_more m 1 (a + 3) (a + 4) (omega arith) (omega arith)
    ∙ ap (λ (l : List ℕ). get_or m (a + 3) 0 ∷ l) (take_more m 0 (a + 4) (a + 5) (omega arith) (omega arith)))))

-- ---- good quantisers

pub quant_low : (q : List ℕ) (k : ℕ) → QuantGood q → 6 ≤ quant_at q k
quant_low q k g = g.low (band_of k) (band_below k)

pub quant_high : (q : List ℕ) (k : ℕ) → QuantGood q → quant_at q k ≤ 15
quant_high q k g = g.high (band_of k) (band_below k)

pub power_near : (e : ℕ) → e ≤ 15 → Near 16384 (pos (2 ^ (e - 1)))
power_near e h = record { near = pow_mono {i = e - 1} {j = 14} (omega arith) }

-- 1 << k, for a k below 31
pub shl_one : (k : ℕ) → k < 31 → (1 * 2 ^ k) % 4294967296 ≡ 2 ^ k
shl_one k h = shl_exact {a = 1} 1 k 32 (lit< tt) (omega arith) ∙ one-mul (2 ^ k)

pub shl_small : (k : ℕ) → k < 31 → (1 * 2 ^ k) % 4294967296 < 2147483648
shl_small k h = subst (λ (n : ℕ). n < 2147483648) (sym (shl_one k h)) (pow-lt h)

each_good : (q : List ℕ) (n : ℕ) → good_to q n ≡ true → (i : ℕ) → i < n → (6 ≤ get_or q i 0) × (get_or q i 0 ≤ 15)
unfolding good_to
each_good q zero e i h = absurd (not-suc-le-zero h)
each_good q (suc n) e i h = last (ℕ_discrete i n) (λ a j. each_good q n a i j)
  where
    last : Dec (i ≡ n) → (good_to q n ≡ true → i < n → (6 ≤ get_or q i 0) × (get_or q i 0 ≤ 15)) → (6 ≤ get_or q i 0) × (get_or q i 0 ≤ 15)
    last (yes d) r =
        let t = both_true (good_to q n) _ e in
        let u = both_true (leb 6 (get_or q n 0)) _ t.1 in
        subst (λ (k : ℕ). (6 ≤ get_or q k 0) × (get_or q k 0 ≤ 15)) (sym d) (leb-true 6 (get_or q n 0) u.0, leb-true (get_or q n 0) 15 u.1)
    last (no d) r = r (both_true (good_to q n) _ e).0 (omega arith)

-- a set that passes the test is good
pub good_set : (q : List ℕ) → is_good q ≡ true → QuantGood q
good_set q e = record { low = λ i h. (each_good q 10 e i h).0; high = λ i h. (each_good q 10 e i h).1 }

-- a good set passes the test
pub set_good : (q : List ℕ) → QuantGood q → is_good q ≡ true
unfolding good_to
set_good q g = go 10 (omega arith)
  where
    go : (n : ℕ) → n ≤ 10 → good_to q n ≡ true
    go zero h = refl
    go (suc n) h =
        ap (λ (b : Bool). b && (leb 6 (get_or q n 0) && leb (get_or q n 0) 15)) (go n (omega arith))
        ∙ (ap (λ (b : Bool). b && leb (get_or q n 0) 15) (le-leb 6 (get_or q n 0) (g.low n (omega arith))) ∙ le-leb (get_or q n 0) 15 (g.high n (omega arith)))

-- one value that fails, and the whole set does
bad_one : (q : List ℕ) (i n : ℕ) → (leb 6 (get_or q i 0) && leb (get_or q i 0) 15) ≡ false → i < n → good_to q n ≡ false
unfolding good_to
bad_one q i zero e h = absurd (not-suc-le-zero h)
bad_one q i (suc n) e h = last (ℕ_discrete i n) (λ k. bad_one q i n e k)
  where
    and_false : (a b : Bool) → b ≡ false → (a && b) ≡ false
    and_false true b p = p
    and_false false b p = refl

    last : Dec (i ≡ n) → (i < n → good_to q n ≡ false) → good_to q (suc n) ≡ false
    last (yes d) k = and_false (good_to q n) _ (ap (λ (j : ℕ). leb 6 (get_or q j 0) && leb (get_or q j 0) 15) (sym d) ∙ e)
    last (no d) k = ap (λ (b : Bool). b && (leb 6 (get_or q n 0) && leb (get_or q n 0) 15)) (k (omega arith))

pub bad_low : (q : List ℕ) (i : ℕ) → i < 10 → get_or q i 0 < 6 → false ≡ is_good q
bad_low q i h l = sym (bad_one q i 10 (ap (λ (b : Bool). b && leb (get_or q i 0) 15) (lt-leb 6 (get_or q i 0) l)) h)

pub bad_high : (q : List ℕ) (i : ℕ) → i < 10 → 6 ≤ get_or q i 0 → 15 < get_or q i 0 → false ≡ is_good q
bad_high q i h a l = sym (bad_one q i 10 (ap (λ (b : Bool). b && leb (get_or q i 0) 15) (le-leb 6 (get_or q i 0) a) ∙ lt-leb (get_or q i 0) 15 l) h)

pub good_next : (q : List ℕ) (i : ℕ) → good_to q i ≡ true → 6 ≤ get_or q i 0 → get_or q i 0 ≤ 15 → good_to q (i + 1) ≡ true
unfolding good_to
good_next q i e a l =
    ap (good_to q) (add-one i)
    ∙ (ap (λ (b : Bool). b && (leb 6 (get_or q i 0) && leb (get_or q i 0) 15)) e
    ∙ (ap (λ (b : Bool). b && leb (get_or q i 0) 15) (le-leb 6 (get_or q i 0) a) ∙ le-leb (get_or q i 0) 15 l))
