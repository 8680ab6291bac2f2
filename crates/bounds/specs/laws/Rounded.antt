-- What the writer makes of wavelet values that are within 24,356: rounded, and LL3 as differences, it is a list in which the reader finds no 9; and with
-- no value above 512 before LL3, and none above 1,536 in it, since no quantiser is below 6.
-- Assumes nothing.
use Rattle.std.specs.Prelude.{◌≡◌, List, ℤ, pos, negsuc, nat_abs, ◌+ℤ◌}
use Rattle.std.proofs.Common.{sym, ◌∙◌, subst, mul-le-mul_left, mul-le-mul_right}
use Rattle.std.proofs.Math.Path.{ap}
use Prim.Native.Nat.{ℕ, zero, suc, ◌+◌, ◌*◌, ◌-◌, ◌^◌, ◌≤◌, ◌<◌}
use Rattle.std.proofs.Math.Nat.{pow-suc}
use Rattle.std.proofs.Math.Decide.{dec_lt}
use native.Mathlib.Omega.{arith}
use Rattle.std.proofs.Math.Pow.{pow_mono}
use Rattle.std.specs.Int.Signed.{shr_z}
use Rattle.whole.specs.laws.Near.{Near, near_*, sub_near, wide_near}
use Rattle.whole.specs.Row.{◌⇒◌∣◌}
use Rattle.whole.specs.Tab.{at, table}
use Rattle.whole.specs.laws.Tab.{at_tab, length_tab}
use Rattle.bands.specs.Bands.{band_at, bands, first_band, quant_at, ll3, sums_of, QuantGood, coefficients_fault}
use Rattle.bands.specs.Rounding.{round_z, round_at, diff_at, differences, rounded_by}
use Rattle.bands.specs.laws.Steps.{limit_of, limit_at}
use Rattle.bands.specs.laws.Band.{same_band, quant_low, quant_high}
use Rattle.bands.specs.laws.Judge.{Judged, judged_none}
use Rattle.bands.specs.laws.Part.{front_at, back_at}
use Rattle.bands.specs.laws.Range.{sum_cong, scaled_limit}
use Rattle.bands.specs.laws.Rounding.{sum_diff, rounded_length}
use Rattle.bounds.specs.laws.Gap.{over, under, parts_abs, atom, whole, plus, floored}

-- ---- one value

-- a rounded value, times what it was divided by, is at most half of that further out
half_out : (m h : ℕ) (v : ℤ) → 0 < h → m ≡ 2 * h → m * nat_abs (shr_z (v +ℤ pos h) m) ≤ nat_abs v + h
unfolding over under
half_out m h v l e = let f = floored m (plus (atom v) (whole h)) (omega arith) in go (shr_z (v +ℤ pos h) m) f.0 f.1
  where
    go : (r : ℤ) → m * over r + (under v + 0) ≤ over v + h + m * under r → over v + h + m * under r < m * over r + (under v + 0) + m →
        m * nat_abs r ≤ nat_abs v + h
    go (pos n) a b = omega (arith, parts_abs v)
    go (negsuc n) a b = omega (arith, parts_abs v)

module _ (e : ℕ) (v : ℤ) (low : 6 ≤ e) (high : e ≤ 15) where
  half : ℕ
  half = 2 ^ (e - 2)

  half_low : 16 ≤ half
  unfolding half
  half_low = pow_mono {i = 4} {j = e - 2} (omega arith)

  half_high : half ≤ 8192
  unfolding half
  half_high = pow_mono {i = e - 2} {j = 13} (omega arith)

  double : 2 ^ (e - 1) ≡ 2 * half
  unfolding half
  double = let s : e - 1 ≡ suc (e - 2) = omega arith in ap (λ (n : ℕ). 2 ^ n) s ∙ pow-suc 2 (e - 2) ∙ omega arith

  rounded_size : 2 ^ (e - 1) * nat_abs (round_z e v) ≤ nat_abs v + half
  unfolding half
  rounded_size = half_out (2 ^ (e - 1)) half v (omega (arith, half_low)) double

  -- scaled again it is in range
  round_limit : Near 24356 v → Near (limit_of e) (round_z e v)
  round_limit p = scaled_limit e (round_z e v) (record {
    near = omega (arith, near_* (round_z e v) (pos (2 ^ (e - 1))), rounded_size, half_high, p.near);
  })

  -- and it is small, by the least quantiser
  round_small : (M K : ℕ) → M < 16 * (2 * K + 1) → Near M v → Near K (round_z e v)
  round_small M K l p = record { near = by (nat_abs (round_z e v)) (dec_lt K (nat_abs (round_z e v))) rounded_size }
    where
      by : (r : ℕ) → Dec (K < r) → 2 ^ (e - 1) * r ≤ nat_abs v + half → r ≤ K
      by r (no h) s = omega arith
      by r (yes h) s =
          let t : 2 * half * r ≤ nat_abs v + half = subst (λ (m : ℕ). m * r ≤ nat_abs v + half) double s in
          let a : (2 * K + 1) * 16 ≤ (2 * K + 1) * half = mul-le-mul_left (2 * K + 1) half_low in
          let b : (K + 1) * half ≤ r * half = mul-le-mul_right half (omega arith) in
          absurd (omega (arith, t, a, b, p.near))

-- ---- the list

module _ (q : List ℕ) (xs : List ℤ) (good : QuantGood q) (all : (k : ℕ) → Near 24356 (at xs k)) where
  -- what is rounded, by its places
  rounds : List ℤ
  rounds = table 4096 (round_at q (at xs))

  front_is : (k : ℕ) → k < 4032 → at (rounded_by q xs) k ≡ round_at q (at xs) k
  unfolding rounded_by differences rounds
  front_is k h = front_at rounds (table 64 (diff_at (ll3 rounds))) k (length_tab 4096 _) h ∙ at_tab 4096 (round_at q (at xs)) k (omega arith)

  last_is : (i : ℕ) → i < 64 → ll3 (rounded_by q xs) i ≡ diff_at (ll3 rounds) i
  unfolding rounded_by differences rounds
  last_is i h = back_at rounds (table 64 (diff_at (ll3 rounds))) i (length_tab 4096 _) ∙ at_tab 64 (diff_at (ll3 rounds)) i h

  ll3_is : (i : ℕ) → i < 64 → ll3 rounds i ≡ round_at q (at xs) (4032 + i)
  unfolding rounds
  ll3_is i h = at_tab 4096 (round_at q (at xs)) (4032 + i) (omega arith)

  -- sums take the differences back
  sums_are : (i : ℕ) → i < 64 → sums_of (rounded_by q xs) i ≡ round_at q (at xs) (4032 + i)
  unfolding sums_of
  sums_are i h = sum_cong (ll3 (rounded_by q xs)) (diff_at (ll3 rounds)) (i + 1) (λ k l. last_is k (omega arith)) ∙ (sum_diff (ll3 rounds) i ∙ ll3_is i h)

  small : (k M K : ℕ) → M < 16 * (2 * K + 1) → Near M (at xs k) → Near K (round_at q (at xs) k)
  small k M K = round_small (quant_at q k) (at xs k) (quant_low q k good) (quant_high q k good) M K

  in_limit : (k : ℕ) → Near (limit_at q k) (round_at q (at xs) k)
  in_limit k = round_limit (quant_at q k) (at xs k) (quant_low q k good) (quant_high q k good) (all k)

  ll3_small : (i : ℕ) → i < 64 → Near 768 (ll3 rounds i)
  ll3_small i h = subst (Near 768) (sym (ll3_is i h)) (small (4032 + i) 24356 768 (omega arith) (all (4032 + i)))

  diff_small : (i : ℕ) → i < 64 → Near 1536 (diff_at (ll3 rounds) i)
  unfolding diff_at
  diff_small zero h = wide_near (omega arith) (ll3_small zero h)
  diff_small (suc i) h = sub_near (ll3_small (suc i) h) (ll3_small i (omega arith))

  pub last_small : (i : ℕ) → i < 64 → Near 1536 (ll3 (rounded_by q xs) i)
  last_small i h = subst (Near 1536) (sym (last_is i h)) (diff_small i h)

  pub front_small : (k : ℕ) → k < 4032 → Near 16237 (at xs k) → Near 512 (at (rounded_by q xs) k)
  front_small k h p = subst (Near 512) (sym (front_is k h)) (small k 16237 512 (omega arith) p)

  last_quant : (i : ℕ) → i < 64 → quant_at q (4032 + i) ≡ quant_at q 4032
  unfolding band_at bands first_band ◌⇒◌∣◌
  last_quant i h = let e = same_band 4032 (4032 + i) (omega arith) (omega arith) in cc

  judged : Judged q (rounded_by q xs)
  judged = record {
    places = λ k h. subst (Near (limit_at q k)) (sym (front_is k h)) (in_limit k);
    last = λ i h. wide_near (omega arith) (last_small i h);
    sums = λ i h. subst (Near (limit_at q 4032)) (sym (sums_are i h))
        (subst (λ (n : ℕ). Near (limit_of n) (round_at q (at xs) (4032 + i))) (last_quant i h) (in_limit (4032 + i)));
  }

  -- 9 does not happen
  pub no_nine : 0 ≡ coefficients_fault q (rounded_by q xs)
  no_nine = judged_none q (rounded_by q xs) (rounded_length q xs) judged
