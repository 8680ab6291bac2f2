-- A list judged place by place, without a product and without a store: the places before LL3 by the limits of their bands, LL3 by its sums.
-- Assumes nothing.
use Rattle.std.specs.Prelude.{◌≡◌, Bool, List, ℕ, ◌+◌, ◌-◌, ◌<◌, ℤ, pos, length, get_or, take, drop}
use Rattle.std.proofs.Math.Path.{refl, subst}
use Rattle.std.proofs.Common.{sym, ◌∙◌, ap, zero-le}
use Rattle.std.proofs.Math.Bool.{true, false}
use Rattle.std.proofs.Math.Decide.{dec_lt}
use native.Mathlib.Omega.{arith}
use Rattle.std.proofs.Math.ListN.{get_or-eq_default}
use Rattle.whole.specs.Row.{◌!◌⨾◌, ◌⇒◌∣◌, ◌⨟◌}
use Rattle.whole.specs.laws.Row.{held, both, passes, goes_on}
use Rattle.whole.specs.laws.Near.{Near}
use Rattle.whole.specs.Tab.{at, table}
use Rattle.whole.specs.laws.Tab.{AllNear, at_tab}
use Rattle.whole.specs.laws.Part.{part_length, part_at}
use Rattle.bands.specs.declared.Band.{Band}
use Rattle.bands.specs.Bands.{bands, first_band, band_at, quant_at, all_in, sum_to, ll3, sums_of, summed, scale_at, sums_fault, scale_fault, range_fault}
use Rattle.bands.specs.Bands.{coefficients_fault}
use Rattle.bands.specs.laws.Steps.{overs, limit_of, limit_at}
use Rattle.bands.specs.laws.Band.{same_band, band_good}
use Rattle.bands.specs.laws.Range.{all_each, each_all, overs_cong, overs_add, none_over, within_none, limit_scaled, scaled_limit, limit_near}
use Rattle.bands.specs.laws.Part.{front_at, back_at, part_sums}

-- ---- the three counts

-- one band more: a is its first place, e where it ends, m its limit
pub limits_turn :
    (q : List ℕ) (xs : List ℤ) (a e m bad r : ℕ) → a < 4032 → e ≡ (band_at a).end → length xs ≡ 4096 → m ≡ limit_at q a → bad ≡ overs (limit_at q) (at xs) a →
    r ≡ overs (λ (i : ℕ). m) (at (take (e - a) (drop a xs))) (length (take (e - a) (drop a xs))) → bad + r ≡ overs (limit_at q) (at xs) e
limits_turn q xs a e m bad r below end len lim b c =
    let t = band_good a in
    let u = t.behind (omega arith) in
    let v = t.before below in
    let l = part_length xs a e (omega (arith, end)) (omega (arith, end)) in
    let n : a + (e - a) ≡ e = omega (arith, end) in
    let s = overs_cong (λ (i : ℕ). m) (λ (i : ℕ). limit_at q (a + i)) (at (take (e - a) (drop a xs))) (λ (i : ℕ). at xs (a + i)) (e - a)
    (λ i h. lim ∙ ap (λ (z : Band). limit_of (get_or q z.set 0)) (sym (same_band a (a + i) (omega arith) (subst (λ (x : ℕ). a + i < x) end (omega arith)))))
    (λ i h. part_at xs a (e - a) i h) in
    let d : bad + r ≡ overs (limit_at q) (at xs) a + overs (λ (i : ℕ). limit_at q (a + i)) (λ (i : ℕ). at xs (a + i)) (e - a) =
    omega (arith, b, c ∙ ap (overs (λ (i : ℕ). m) (at (take (e - a) (drop a xs)))) l ∙ s) in
    d ∙ (sym (overs_add (limit_at q) (at xs) a (e - a)) ∙ ap (overs (limit_at q) (at xs)) n)

-- ---- the list that has no fault

pub record Judged (q : List ℕ) (xs : List ℤ) : Type 0 where
  pub places : (k : ℕ) → k < 4032 → Near (limit_at q k) (at xs k)
  pub last : (i : ℕ) → i < 64 → Near 32767 (ll3 xs i)
  pub sums : (i : ℕ) → i < 64 → Near (limit_at q 4032) (sums_of xs i)

-- a place of LL3 has LL3's quantiser
last_quant : (q : List ℕ) (i : ℕ) → i < 64 → quant_at q (4032 + i) ≡ quant_at q 4032
unfolding band_at bands first_band ◌⇒◌∣◌
last_quant q i h = ap (λ (b : Band). get_or q b.set 0) (same_band 4032 (4032 + i) (omega arith) (omega arith))

module _ (q : List ℕ) (xs : List ℤ) (len : length xs ≡ 4096) where
  -- what is scaled at a place: a coefficient, or a sum of LL3
  front_is : (k : ℕ) → k < 4032 → at (summed xs) k ≡ at xs k
  unfolding summed
  front_is k h = front_at xs (table 64 (sums_of xs)) k len h

  back_is : (i : ℕ) → i < 64 → at (summed xs) (4032 + i) ≡ sums_of xs i
  unfolding summed
  back_is i h = back_at xs (table 64 (sums_of xs)) i len ∙ at_tab 64 (sums_of xs) i h

  pub judged_none : Judged q xs → 0 ≡ coefficients_fault q xs
  unfolding coefficients_fault range_fault sums_fault scale_fault
  judged_none j =
      goes_on _ _ _ (sym (passes _ _ _ _ (each_all (at xs) (length xs) (λ k h. in_list k (dec_lt k 4032) (omega arith))) refl))
      (goes_on _ _ _ (sym (passes _ _ _ _ (each_all (sums_of xs) 64 (λ i h. limit_near (quant_at q 4032) (sums_of xs i) (j.sums i h))) refl))
      (passes _ _ _ _ (each_all (scale_at q (at (summed xs))) 4096 (λ k h. scaled k (dec_lt k 4032) h)) refl))
    where
      in_list : (k : ℕ) → Dec (k < 4032) → k < 4096 → Near 32767 (at xs k)
      in_list k (yes h) l = limit_near (quant_at q k) (at xs k) (j.places k h)
      in_list k (no h) l = let n : 4032 + (k - 4032) ≡ k = omega arith in subst (λ (i : ℕ). Near 32767 (at xs i)) n (j.last (k - 4032) (omega arith))

      scaled : (k : ℕ) → Dec (k < 4032) → k < 4096 → Near 32767 (scale_at q (at (summed xs)) k)
      scaled k (yes h) l = limit_scaled (quant_at q k) (at (summed xs) k) (subst (Near (limit_at q k)) (sym (front_is k h)) (j.places k h))
      scaled k (no h) l =
          let i : k - 4032 < 64 = omega arith in
          let n : 4032 + (k - 4032) ≡ k = omega arith in
          subst (λ (x : ℕ). Near 32767 (scale_at q (at (summed xs)) x)) n
          (limit_scaled (quant_at q (4032 + (k - 4032))) (at (summed xs) (4032 + (k - 4032)))
          (subst (λ (z : ℤ). Near (limit_at q (4032 + (k - 4032))) z) (sym (back_is (k - 4032) i))
          (subst (λ (m : ℕ). Near (limit_of m) (sums_of xs (k - 4032))) (sym (last_quant q (k - 4032) i)) (j.sums (k - 4032) i))))

  pub none_judged : 0 ≡ coefficients_fault q xs → Judged q xs
  unfolding coefficients_fault range_fault sums_fault scale_fault
  none_judged e =
      let a = both _ _ e in
      let b = both _ _ a.1 in
      let r = all_each (at xs) (length xs) (held _ 9 0 0 (λ z. omega arith) a.0).0 in
      let s = all_each (scale_at q (at (summed xs))) 4096 (held _ 9 0 0 (λ z. omega arith) b.1).0 in
      record {
        places = λ k h. subst (Near (limit_at q k)) (front_is k h) (scaled_limit (quant_at q k) (at (summed xs) k) (s k (omega arith)));
        last = λ i h. r (4032 + i) (omega arith);
        sums = λ i h. subst (Near (limit_at q 4032)) (back_is i h)
            (subst (λ (m : ℕ). Near (limit_of m) (at (summed xs) (4032 + i))) (last_quant q i h)
            (scaled_limit (quant_at q (4032 + i)) (at (summed xs) (4032 + i)) (s (4032 + i) (omega arith))));
      }

  -- the only other number is 9
  nine : (coefficients_fault q xs ≡ 0 → ⊥) → 9 ≡ coefficients_fault q xs
  unfolding coefficients_fault range_fault sums_fault scale_fault ◌⨟◌ ◌!◌⨾◌
  nine = go (all_in (at xs) (length xs)) (all_in (sums_of xs) 64) (all_in (scale_at q (at (summed xs))) 4096)
    where
      go : (a b c : Bool) → (((a ! 9 ⨾ 0) ⨟ ((b ! 9 ⨾ 0) ⨟ (c ! 9 ⨾ 0))) ≡ 0 → ⊥) → 9 ≡ ((a ! 9 ⨾ 0) ⨟ ((b ! 9 ⨾ 0) ⨟ (c ! 9 ⨾ 0)))
      go false b c h = refl
      go true false c h = refl
      go true true false h = refl
      go true true true h = absurd (h refl)

  -- ---- the four ways out of the judge, by its counts

  not_judged : (Judged q xs → ⊥) → 9 ≡ coefficients_fault q xs
  not_judged h = nine (λ z. h (none_judged (sym z)))

  module _ (n : ℕ) (e : n ≡ overs (limit_at q) (at xs) 4032) where
    pub places_over : (n ≡ 0 → ⊥) → 9 ≡ coefficients_fault q xs
    places_over h = not_judged (λ j. h (e ∙ within_none (limit_at q) (at xs) 4032 j.places))

  module _ (n : ℕ) (e : n ≡ overs (λ (i : ℕ). 32767) (at (take 64 (drop 4032 xs))) (length (take 64 (drop 4032 xs)))) where
    of_part : n ≡ overs (λ (i : ℕ). 32767) (ll3 xs) 64
    of_part =
        let l : length (take 64 (drop 4032 xs)) ≡ 64 = part_length xs 4032 4096 (omega arith) (omega arith) in
        e ∙ (ap (overs (λ (i : ℕ). 32767) (at (take 64 (drop 4032 xs)))) l
        ∙ overs_cong _ _ (at (take 64 (drop 4032 xs))) (ll3 xs) 64 (λ i h. refl) (λ i h. part_at xs 4032 64 i h))

    pub last_over : (n ≡ 0 → ⊥) → 9 ≡ coefficients_fault q xs
    last_over h = not_judged (λ j. h (of_part ∙ within_none (λ (i : ℕ). 32767) (ll3 xs) 64 j.last))

    -- none is out: LL3 can be summed
    pub last_near : n ≡ 0 → AllNear 32767 (take 64 (drop 4032 xs))
    last_near z = record { all = λ i. place i (dec_lt i 64) }
      where
        place : (i : ℕ) → Dec (i < 64) → Near 32767 (at (take 64 (drop 4032 xs)) i)
        place i (yes h) = subst (Near 32767) (sym (part_at xs 4032 64 i h)) (none_over (λ (i : ℕ). 32767) (ll3 xs) 64 (sym of_part ∙ z) i h)
        place i (no h) = subst (Near 32767) (sym (get_or-eq_default (take 64 (drop 4032 xs)) (pos 0) {n = i}
            (omega (arith, part_length xs 4032 4096 (omega arith) (omega arith))))) (record { near = zero-le })

  module _ (m n : ℕ) (lim : m ≡ limit_at q 4032) (e : n ≡ overs (λ (i : ℕ). m) (λ (i : ℕ). sum_to (at (take 64 (drop 4032 xs))) (i + 1)) 64) where
    of_sums : n ≡ overs (λ (i : ℕ). limit_at q 4032) (sums_of xs) 64
    of_sums = e ∙ overs_cong (λ (i : ℕ). m) (λ (i : ℕ). limit_at q 4032) (λ (i : ℕ). sum_to (at (take 64 (drop 4032 xs))) (i + 1)) (sums_of xs) 64 (λ i h. lim)
        (λ i h. part_sums xs i h)

    pub sums_over : (n ≡ 0 → ⊥) → 9 ≡ coefficients_fault q xs
    sums_over h = not_judged (λ j. h (of_sums ∙ within_none (λ (i : ℕ). limit_at q 4032) (sums_of xs) 64 j.sums))

    pub none_is_over : (a b : ℕ) → a ≡ overs (limit_at q) (at xs) 4032 → a ≡ 0 →
        b ≡ overs (λ (i : ℕ). 32767) (at (take 64 (drop 4032 xs))) (length (take 64 (drop 4032 xs))) → b ≡ 0 → n ≡ 0 → 0 ≡ coefficients_fault q xs
    none_is_over a b ea za eb zb z = judged_none (record {
      places = none_over (limit_at q) (at xs) 4032 (sym ea ∙ za);
      last = none_over (λ (i : ℕ). 32767) (ll3 xs) 64 (sym (of_part b eb) ∙ zb);
      sums = none_over (λ (i : ℕ). limit_at q 4032) (sums_of xs) 64 (sym of_sums ∙ z);
    })

-- ---- a list in range: what is left to judge
pub range_none : (xs : List ℤ) → AllNear 32767 xs → range_fault xs ≡ 0
unfolding range_fault
range_none xs n = sym (passes (all_in (at xs) (length xs)) 9 0 0 (each_all (at xs) (length xs) (λ i h. n.all i)) refl)
