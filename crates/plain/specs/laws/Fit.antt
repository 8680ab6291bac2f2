-- LL3's sums and scaling, a place at a time: what the two loops keep, and each of their ways out.
use Rattle.std.specs.Prelude.{ℕ, zero, suc, ◌+◌, ◌≤◌, ◌<◌, ◌≡◌, Bool, true, false, ◌&&◌, List, ℤ, pos, negsuc, ◌+ℤ◌, length, set}
use Rattle.std.proofs.Math.Path.{refl, sym, ap, subst}
use Rattle.std.proofs.Common.{◌∙◌, arith, add-one, leb-true, leb-false, le-leb}
use Rattle.std.proofs.Math.Decide.{ℕ_discrete}
use Rattle.std.proofs.lemmas.Bool.{lt-leb}
use Rattle.std.specs.Int.Signed.{le_z}
use Rattle.whole.specs.Row.{◌!◌⨾◌, ◌⨟◌}
use Rattle.whole.specs.laws.Row.{passes, fails, and_yes, and_no, and_no', stops, goes_on}
use Rattle.whole.specs.Tab.{at, table}
use Rattle.whole.specs.laws.Tab.{AllNear, at_tab, length_tab, is_tab}
use Rattle.bands.specs.Bands.{band_at, band_of, in_range, all_in, sum_to, ll3, sums_of, sums_fault, summed, scale_at, scale_fault, scaled_by}
use Rattle.bands.specs.laws.Part.{Done, done_none, done_put, done_all, front_at, back_at, seam_length, summed_near}
use Rattle.bands.specs.laws.Range.{sum_more}
use Rattle.bands.specs.laws.Band.{same_band}

-- ---- what the two loops promise, and both together: the number, and where it is 0 the list

pub record Sums (before after : List ℤ) (r : ℕ) : Type 0 where
  pub number : r ≡ sums_fault before
  pub list : r ≡ 0 → after ≡ summed before

pub record Scales (q : List ℕ) (before after : List ℤ) (r : ℕ) : Type 0 where
  pub number : r ≡ scale_fault q before
  pub list : r ≡ 0 → after ≡ scaled_by q before

pub record Fitted (q : List ℕ) (before after : List ℤ) (r : ℕ) : Type 0 where
  pub number : r ≡ (sums_fault before ⨟ scale_fault q (summed before))
  pub list : r ≡ 0 → after ≡ scaled_by q (summed before)

-- ---- the range by two tests

pub in_low : (z : ℤ) → le_z (negsuc 32766) z ≡ true → le_z z (pos 32767) ≡ in_range z
unfolding in_range
in_low (pos n) h = refl
in_low (negsuc n) h = sym (le-leb (suc n) 32767 (omega (arith, leb-true n 32766 h)))

pub in_not : (z : ℤ) → le_z (negsuc 32766) z ≡ false → le_z (negsuc 32766) z ≡ in_range z
unfolding in_range
in_not (pos n) h = absurd (let z : ◌≡◌ {A = ℕ} 0 1 = cc in omega arith)
in_not (negsuc n) h = h ∙ sym (lt-leb (suc n) 32767 (omega (arith, leb-false n 32766 h)))

-- ---- one place more, and one place that fails

all_more : (f : ℕ → ℤ) (n : ℕ) → all_in f n ≡ true → in_range (f n) ≡ true → all_in f (n + 1) ≡ true
unfolding all_in
all_more f n a h = ap (all_in f) (add-one n) ∙ and_yes (all_in f n) (in_range (f n)) a h

all_not : (f : ℕ → ℤ) (i n : ℕ) → i < n → in_range (f i) ≡ false → all_in f n ≡ false
unfolding all_in
all_not f i zero h e = absurd (omega arith)
all_not f i (suc n) h e = last (ℕ_discrete i n) (λ l. all_not f i n l e) (all_in f n) refl
  where
    last : Dec (i ≡ n) → (i < n → all_in f n ≡ false) → (b : Bool) → all_in f n ≡ b → (all_in f n && in_range (f n)) ≡ false
    last (yes d) r true p = and_no' _ _ p (ap (λ (k : ℕ). in_range (f k)) (sym d) ∙ e)
    last (yes d) r false p = and_no _ _ p
    last (no d) r b p = and_no _ _ (r (omega arith))

-- a list done to its end
pub done_is : (ys before after : List ℤ) (n : ℕ) → length before ≡ n → length ys ≡ n → Done (at ys) n before after → after ≡ ys
done_is ys before after n l m d = done_all (at ys) n before after l d ∙ sym (is_tab n (at ys) ys m (λ i h. refl))

-- one place more, behind `from`
pub done_next : (F : ℕ → ℤ) (from k : ℕ) (before xs : List ℤ) (v : ℤ) → from + k < length before → v ≡ F (from + k) → Done F (from + k) before xs →
    Done F (from + (k + 1)) before (set xs (from + k) v)
done_next F from k before xs v h e d =
    let n : from + k + 1 ≡ from + (k + 1) = omega arith in
    subst (λ (m : ℕ). Done F m before (set xs (from + k) v)) n (done_put F (from + k) before xs v h e d)

-- ---- the band of a place, by the place where it starts

pub band_from : (a end k set : ℕ) → (band_at a).end ≡ end → set ≡ band_of a → a ≤ k → k < end → set ≡ band_of k
band_from a end k set n e l h = rw (band_of, same_band a k l (subst (λ (m : ℕ). k < m) (sym n) h)) e

-- ---- the sums

pub record Summing (before now : List ℤ) (s : ℤ) (i : ℕ) : Type 0 where
  pub room : i ≤ 64
  pub so_far : s ≡ sum_to (ll3 before) i
  pub good : all_in (sums_of before) i ≡ true
  pub done : Done (at (summed before)) (4032 + i) before now

module _ (before : List ℤ) (len : length before ≡ 4096) where
  pub sum_start : Summing before before (pos 0) 0
  unfolding summed sum_to all_in
  sum_start = record {
    room = omega arith;
    so_far = refl;
    good = refl;
    done = record { same = refl; done = λ k h. sym (front_at before (table 64 (sums_of before)) k len h); rest = λ k h. refl };
  }

  module _ (now : List ℤ) (s : ℤ) (i : ℕ) (w : Summing before now s i) (h : i < 64) where
    -- what is added
    pub sum_here : at now (4032 + i) ≡ ll3 before i
    sum_here = w.done.rest (4032 + i) (omega arith)

    module _ (v : ℤ) (e : v ≡ s +ℤ ll3 before i) where
      is_sum : v ≡ sums_of before i
      unfolding sums_of
      is_sum = e ∙ ap (λ (z : ℤ). z +ℤ ll3 before i) w.so_far ∙ sum_more (ll3 before) i

      at_sum : v ≡ at (summed before) (4032 + i)
      unfolding summed
      at_sum = is_sum ∙ sym (back_at before (table 64 (sums_of before)) i len ∙ at_tab 64 (sums_of before) i h)

      pub sum_next : in_range v ≡ true → Summing before (set now (4032 + i) v) v (i + 1)
      unfolding sums_of
      sum_next r = record {
        room = omega arith;
        so_far = is_sum;
        good = all_more (sums_of before) i w.good (ap in_range (sym is_sum) ∙ r);
        done = done_next (at (summed before)) 4032 i before now v (omega arith) at_sum w.done;
      }

      pub sum_bad : (after : List ℤ) → in_range v ≡ false → Sums before after 9
      unfolding sums_fault
      sum_bad after r = record {
        number = fails _ 9 0 _ (all_not (sums_of before) i 64 h (ap in_range (sym is_sum) ∙ r)) refl;
        list = λ z. absurd (omega arith);
      }

  pub sum_end : (now : List ℤ) (s : ℤ) (i : ℕ) → Summing before now s i → 64 ≤ i → Sums before now 0
  unfolding sums_fault summed
  sum_end now s i w h =
      let n : i ≡ 64 = omega (arith, w.room) in
      record {
        number = passes _ 9 0 _ (subst (λ (k : ℕ). all_in (sums_of before) k ≡ true) n w.good) refl;
        list = λ z. done_is (summed before) before now 4096 len (seam_length before _ len (length_tab 64 _))
            (subst (λ (k : ℕ). Done (at (summed before)) (4032 + k) before now) n w.done);
      }

-- ---- scaling

pub record Scaling (q : List ℕ) (before now : List ℤ) (k : ℕ) : Type 0 where
  pub room : k ≤ 4096
  pub good : all_in (scale_at q (at before)) k ≡ true
  pub done : Done (scale_at q (at before)) k before now

module _ (q : List ℕ) (before : List ℤ) (len : length before ≡ 4096) where
  pub scale_start : Scaling q before before 0
  unfolding all_in
  scale_start = record { room = omega arith; good = refl; done = done_none _ _ }

  module _ (now : List ℤ) (k : ℕ) (w : Scaling q before now k) (h : k < 4096) (v : ℤ) (e : v ≡ scale_at q (at before) k) where
    pub scale_next : in_range v ≡ true → Scaling q before (set now k v) (k + 1)
    scale_next r = record {
      room = omega arith;
      good = all_more (scale_at q (at before)) k w.good (ap in_range (sym e) ∙ r);
      done = done_put (scale_at q (at before)) k before now v (omega arith) e w.done;
    }

    pub scale_bad : (after : List ℤ) → in_range v ≡ false → Scales q before after 9
    unfolding scale_fault
    scale_bad after r = record {
      number = fails _ 9 0 _ (all_not (scale_at q (at before)) k 4096 h (ap in_range (sym e) ∙ r)) refl;
      list = λ z. absurd (omega arith);
    }

  pub scale_end : (now : List ℤ) (k : ℕ) → Scaling q before now k → 4096 ≤ k → Scales q before now 0
  unfolding scale_fault scaled_by
  scale_end now k w h =
      let n : k ≡ 4096 = omega (arith, w.room) in
      record {
        number = passes _ 9 0 _ (subst (λ (i : ℕ). all_in (scale_at q (at before)) i ≡ true) n w.good) refl;
        list = λ z. done_all (scale_at q (at before)) 4096 before now len (subst (λ (i : ℕ). Done (scale_at q (at before)) i before now) n w.done);
      }

-- ---- both: a fault is 9

nine : (b : Bool) (n : ℕ) → n ≡ (b ! 9 ⨾ 0) → (n ≡ 0 → ⊥) → n ≡ 9
unfolding ◌!◌⨾◌
nine true n e h = absurd (h e)
nine false n e h = e

module _ (q : List ℕ) (before mid : List ℤ) (n : ℕ) (s : Sums before mid n) where
  pub fit_stops : (n ≡ 0 → ⊥) → Fitted q before mid 9
  unfolding sums_fault
  fit_stops h =
      let e = nine (all_in (sums_of before) 64) n s.number h in
      record { number = sym e ∙ stops _ _ _ (λ z. h (s.number ∙ z)) s.number; list = λ z. absurd (omega arith) }

  -- a sum is out of range: its number is that of both
  pub fit_ends : (n ≡ 0 → ⊥) → Fitted q before mid n
  fit_ends h = record { number = stops _ _ _ (λ z. h (s.number ∙ z)) s.number; list = λ z. absurd (h z) }

  module _ (z : n ≡ 0) where
    -- what scaling asks for
    pub mid_good : length before ≡ 4096 → AllNear 32767 before → (length mid ≡ 4096) × AllNear 32767 mid
    mid_good l a =
        let g = summed_near before l a (sym z ∙ s.number) in
        (ap length (s.list z) ∙ g.0, subst (AllNear 32767) (sym (s.list z)) g.1)

    module _ (after : List ℤ) (m : ℕ) (t : Scales q mid after m) where
      pub fit_goes : Fitted q before after m
      fit_goes = record {
        number = goes_on _ _ _ (sym s.number ∙ z) (t.number ∙ ap (scale_fault q) (s.list z));
        list = λ y. t.list y ∙ ap (scaled_by q) (s.list z);
      }

      pub fit_done : m ≡ 0 → Fitted q before after 0
      fit_done y = subst (Fitted q before after) y fit_goes

      pub fit_nine : (m ≡ 0 → ⊥) → Fitted q before after 9
      unfolding scale_fault
      fit_nine h = subst (Fitted q before after) (nine (all_in (scale_at q (at mid)) 4096) m t.number h) fit_goes
