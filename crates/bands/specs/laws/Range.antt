-- Laws of the range, of counting what is above a limit in size, and of LL3's sums.
-- Assumes nothing.
use Rattle.std.specs.Prelude.{◌≡◌, refl, Bool, true, false, ◌&&◌, ℕ, zero, suc, ◌+◌, ◌*◌, ◌-◌, ◌^◌, ◌≤◌, ◌<◌, leb, ltb, ℤ, pos, negsuc, neg_ℤ, nat_abs, ◌+ℤ◌}
use Rattle.std.specs.Prelude.{◌*ℤ◌}
use Rattle.std.proofs.Common.{sym, ◌∙◌, ap, subst, zero-le, not-suc-le-zero, add-zero, add-suc, le-div_iff_mul-le, div-le_self, add-one, arith, leb-true}
use Rattle.std.proofs.Common.{ltb-true, ltb-false, le-leb, le-ltb, pow_pos}
use Rattle.std.proofs.Math.Decide.{ℕ_discrete}
use Rattle.std.proofs.lemmas.Bool.{lt-leb}
use Rattle.std.specs.Int.Signed.{lt_z}
use Rattle.whole.specs.Row.{◌⇒◌∣◌}
use Rattle.whole.specs.laws.Near.{Near, add_near, near_*, wide_near}
use Rattle.bands.specs.Bands.{in_range, all_in, sum_to}
use Rattle.bands.specs.laws.Steps.{over_of, overs, limit_of}

pub in_near : (z : ℤ) → in_range z ≡ true → Near 32767 z
unfolding in_range
in_near z h = record { near = leb-true (nat_abs z) 32767 h }

pub near_in : (z : ℤ) → Near 32767 z → in_range z ≡ true
unfolding in_range
near_in z h = le-leb (nat_abs z) 32767 h.near

-- ---- the two tests

over_yes : (m : ℕ) (z : ℤ) → m < nat_abs z → 1 ≡ over_of m z
unfolding over_of ◌⇒◌∣◌
over_yes m z h = sym (ap (λ (b : Bool). b ⇒ 0 ∣ 1) (lt-leb (nat_abs z) m h))

over_no : (m : ℕ) (z : ℤ) → nat_abs z ≤ m → 0 ≡ over_of m z
unfolding over_of ◌⇒◌∣◌
over_no m z h = sym (ap (λ (b : Bool). b ⇒ 0 ∣ 1) (le-leb (nat_abs z) m h))

pub one_le : (b : Bool) (n : ℕ) → n ≡ (b ⇒ 1 ∣ 0) → n ≤ 1
unfolding ◌⇒◌∣◌
one_le true n e = omega arith
one_le false n e = omega arith

high : (m n : ℕ) (b : Bool) → ltb m n ≡ b → ◌≡◌ {A = ℕ} ((b ⇒ 1 ∣ 0) + 0) (over_of m (pos n))
unfolding ◌⇒◌∣◌
high m n true e = over_yes m (pos n) (ltb-true m n e)
high m n false e = over_no m (pos n) (ltb-false m n e)

low : (m n : ℕ) (b : Bool) → ltb m n ≡ b → ◌≡◌ {A = ℕ} (0 + (b ⇒ 1 ∣ 0)) (over_of (suc m) (negsuc n))
unfolding ◌⇒◌∣◌
low m n true e = over_yes (suc m) (negsuc n) (omega (arith, ltb-true m n e))
low m n false e = over_no (suc m) (negsuc n) (omega (arith, ltb-false m n e))

-- above the limit, or below its opposite
pub over_is : (m : ℕ) (z : ℤ) → ◌≡◌ {A = ℕ} ((lt_z (pos m) z ⇒ 1 ∣ 0) + (lt_z z (neg_ℤ (pos m)) ⇒ 1 ∣ 0)) (over_of m z)
unfolding ◌⇒◌∣◌
over_is zero (pos n) = rw (le-ltb n 0 (omega arith)) (high zero n (ltb zero n) refl)
over_is (suc m) (pos n) = high (suc m) n (ltb (suc m) n) refl
over_is zero (negsuc n) = over_yes zero (negsuc n) (omega arith)
over_is (suc m) (negsuc n) = low m n (ltb m n) refl

-- ---- counting

pub over_le : (m : ℕ) (z : ℤ) → over_of m z ≤ 1
unfolding over_of ◌⇒◌∣◌
over_le m z = go (leb (nat_abs z) m)
  where
    go : (b : Bool) → (b ⇒ 0 ∣ 1) ≤ 1
    go true = omega arith
    go false = omega arith

over_none : (m : ℕ) (z : ℤ) → over_of m z ≡ 0 → Near m z
unfolding over_of ◌⇒◌∣◌
over_none m z e = record { near = leb-true (nat_abs z) m (go (leb (nat_abs z) m) e) }
  where
    go : (b : Bool) → ◌≡◌ {A = ℕ} (b ⇒ 0 ∣ 1) 0 → b ≡ true
    go true e = refl
    go false e = absurd (omega arith)

pub overs_le : (m : ℕ → ℕ) (f : ℕ → ℤ) (n : ℕ) → overs m f n ≤ n
unfolding overs
overs_le m f zero = omega arith
overs_le m f (suc n) = omega (arith, overs_le m f n, over_le (m n) (f n))

pub overs_more : (m : ℕ → ℕ) (f : ℕ → ℤ) (n : ℕ) → overs m f n + over_of (m n) (f n) ≡ overs m f (n + 1)
unfolding overs
overs_more m f n = ap (overs m f) (sym (add-one n))

-- one more turn of a loop that counts: the sum fits, and is the next count
pub count_turn : (m : ℕ → ℕ) (f : ℕ → ℤ) (n bad r : ℕ) → bad ≡ overs m f n → r ≡ over_of (m n) (f n) → (bad + r ≤ n + 1) × (bad + r ≡ overs m f (n + 1))
count_turn m f n bad r b e =
    let s : bad + r ≡ overs m f n + over_of (m n) (f n) = omega arith in
    (omega (arith, overs_le m f n, over_le (m n) (f n)), s ∙ overs_more m f n)

pub overs_cong : (m k : ℕ → ℕ) (f g : ℕ → ℤ) (n : ℕ) → ((i : ℕ) → i < n → m i ≡ k i) → ((i : ℕ) → i < n → f i ≡ g i) → overs m f n ≡ overs k g n
unfolding overs
overs_cong m k f g zero p q = refl
overs_cong m k f g (suc n) p q =
    let e = overs_cong m k f g n (λ i l. p i (omega arith)) (λ i l. q i (omega arith)) in
    let a = p n (omega arith) in
    let b = q n (omega arith) in cc

pub overs_add : (m : ℕ → ℕ) (f : ℕ → ℤ) (a n : ℕ) → overs m f (a + n) ≡ overs m f a + overs (λ i. m (a + i)) (λ i. f (a + i)) n
unfolding overs
overs_add m f a zero = ap (overs m f) (add-zero a) ∙ sym (add-zero (overs m f a))
overs_add m f a (suc n) = let e : overs m f (a + suc n) ≡ overs m f (suc (a + n)) = ap (overs m f) (add-suc a n) in omega (arith, overs_add m f a n)

-- none is above its limit exactly where each is within it
pub none_over : (m : ℕ → ℕ) (f : ℕ → ℤ) (n : ℕ) → overs m f n ≡ 0 → (i : ℕ) → i < n → Near (m i) (f i)
unfolding overs
none_over m f zero e i h = absurd (not-suc-le-zero h)
none_over m f (suc n) e i h = last (ℕ_discrete i n) (λ l. none_over m f n (omega arith) i l)
  where
    last : Dec (i ≡ n) → (i < n → Near (m i) (f i)) → Near (m i) (f i)
    last (yes d) r = subst (λ (k : ℕ). Near (m k) (f k)) (sym d) (over_none (m n) (f n) (omega arith))
    last (no d) r = r (omega arith)

pub within_none : (m : ℕ → ℕ) (f : ℕ → ℤ) (n : ℕ) → ((i : ℕ) → i < n → Near (m i) (f i)) → overs m f n ≡ 0
unfolding overs
within_none m f zero h = refl
within_none m f (suc n) h = omega (arith, within_none m f n (λ i l. h i (omega arith)), over_no (m n) (f n) (h n (omega arith)).near)

-- ---- limits

-- within the limit is the same as in range when scaled
pub limit_scaled : (n : ℕ) (z : ℤ) → Near (limit_of n) z → Near 32767 (z *ℤ pos (2 ^ (n - 1)))
unfolding limit_of
limit_scaled n z h = record { near = subst (λ (k : ℕ). k ≤ 32767) (sym (near_* z (pos (2 ^ (n - 1))))) ((le-div_iff_mul-le (pow_pos (n - 1))).0 h.near) }

pub scaled_limit : (n : ℕ) (z : ℤ) → Near 32767 (z *ℤ pos (2 ^ (n - 1))) → Near (limit_of n) z
unfolding limit_of
scaled_limit n z h = record { near = (le-div_iff_mul-le (pow_pos (n - 1))).1 (subst (λ (k : ℕ). k ≤ 32767) (near_* z (pos (2 ^ (n - 1)))) h.near) }

pub limit_near : (n : ℕ) (z : ℤ) → Near (limit_of n) z → Near 32767 z
unfolding limit_of
limit_near n z h = wide_near (div-le_self 32767 (2 ^ (n - 1))) h

-- ---- all in range

-- where all are in range, each is
pub all_each : (f : ℕ → ℤ) (n : ℕ) → all_in f n ≡ true → (i : ℕ) → i < n → Near 32767 (f i)
unfolding all_in
all_each f zero h i k = absurd (not-suc-le-zero k)
all_each f (suc n) h i k = last (ℕ_discrete i n) (λ a j. all_each f n a i j)
  where
    left_true : (a b : Bool) → (a && b) ≡ true → a ≡ true
    left_true true b e = refl
    left_true false b e = e

    right_true : (a b : Bool) → (a && b) ≡ true → b ≡ true
    right_true true b e = e
    right_true false b e = absurd (let z : ◌≡◌ {A = ℕ} 0 1 = cc in omega arith)

    last : Dec (i ≡ n) → (all_in f n ≡ true → i < n → Near 32767 (f i)) → Near 32767 (f i)
    last (yes e) r = subst (λ (m : ℕ). Near 32767 (f m)) (sym e) (in_near (f n) (right_true (all_in f n) (in_range (f n)) h))
    last (no d) r = r (left_true (all_in f n) (in_range (f n)) h) (omega arith)

-- where each is in range, all are
pub each_all : (f : ℕ → ℤ) (n : ℕ) → ((i : ℕ) → i < n → Near 32767 (f i)) → all_in f n ≡ true
unfolding all_in
each_all f zero h = refl
each_all f (suc n) h = ap (λ (b : Bool). b && in_range (f n)) (each_all f n (λ i k. h i (omega arith))) ∙ near_in (f n) (h n (omega arith))

-- ---- sums

pub sum_more : (f : ℕ → ℤ) (n : ℕ) → sum_to f n +ℤ f n ≡ sum_to f (n + 1)
unfolding sum_to
sum_more f n = ap (sum_to f) (sym (add-one n))

pub sum_cong : (f g : ℕ → ℤ) (n : ℕ) → ((k : ℕ) → k < n → f k ≡ g k) → sum_to f n ≡ sum_to g n
unfolding sum_to
sum_cong f g zero h = refl
sum_cong f g (suc n) h = let e = sum_cong f g n (λ k l. h k (omega arith)) in let d = h n (omega arith) in cc

pub sum_near : {B : ℕ} (f : ℕ → ℤ) (n : ℕ) → ((k : ℕ) → k < n → Near B (f k)) → Near (n * B) (sum_to f n)
unfolding sum_to
sum_near f zero h = record { near = zero-le }
sum_near {B} f (suc n) h = subst (λ (m : ℕ). Near m (sum_to f n +ℤ f n)) (omega arith) (add_near (sum_near f n (λ k l. h k (omega arith))) (h n (omega arith)))

-- a sum of at most 64 values in range
pub sum_so_far : (f : ℕ → ℤ) (i : ℕ) → i ≤ 64 → ((k : ℕ) → Near 32767 (f k)) → Near 2097152 (sum_to f i)
sum_so_far f i h n = wide_near (omega arith) (sum_near f i (λ k l. n k))
