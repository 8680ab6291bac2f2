-- Laws of a list whose bands are lent as parts: LL3 at its end, and band after band.
-- Assumes nothing.
use Rattle.std.specs.Prelude.{◌≡◌, refl, List, ◌++◌, ℕ, ◌+◌, ◌-◌, ◌^◌, ◌≤◌, ◌<◌, ℤ, pos, ◌*ℤ◌, length, get_or, set, take, drop}
use Rattle.std.proofs.Common.{sym, ◌∙◌, ap, subst, append-nil, zero-le, arith, length-set, length-append, length-take, length-drop, drop_of_length-le}
use Rattle.std.proofs.Common.{get_or-set_other, get_or-set_same, below_more, get_or-take, get_or-append-add, length-take-le}
use Rattle.std.proofs.Math.Decide.{dec_lt}
use Rattle.std.proofs.Math.ListN.{get_or-append, get_or-eq_default}
use borrow.Rule.Slice.PartMut.{put_mid}
use Rattle.whole.specs.laws.Row.{held}
use Rattle.whole.specs.laws.Near.{Near}
use Rattle.whole.specs.Tab.{at, table}
use Rattle.whole.specs.laws.Tab.{AllNear, at_tab, length_tab, is_tab}
use Rattle.whole.specs.laws.Put.{put_new}
use Rattle.whole.specs.laws.Part.{part_length, part_at, put_length, put_below, put_in, put_above}
use Rattle.bands.specs.declared.Band.{Band}
use Rattle.bands.specs.Bands.{band_at, quant_at, all_in, sum_to, ll3, sums_of, sums_fault, summed, scale_at, scale_fault, scaled_by}
use Rattle.bands.specs.laws.Band.{same_band, band_good}
use Rattle.bands.specs.laws.Range.{all_each, sum_cong}

-- ---- a list whose last 64 places were made anew

-- the seam's two sides
pub front_at : (xs ys : List ℤ) (k : ℕ) → length xs ≡ 4096 → k < 4032 → at (take 4032 xs ++ ys) k ≡ at xs k
front_at xs ys k l h = get_or-append (take 4032 xs) ys (pos 0) k (simp length-take (omega arith)) ∙ get_or-take 4032 xs k (pos 0) h

pub back_at : (xs ys : List ℤ) (i : ℕ) → length xs ≡ 4096 → at (take 4032 xs ++ ys) (4032 + i) ≡ at ys i
back_at xs ys i l =
    ap (λ (n : ℕ). at (take 4032 xs ++ ys) (n + i)) (sym (length-take-le 4032 xs (omega arith))) ∙ get_or-append-add (take 4032 xs) ys i (pos 0)

pub seam_length : (xs ys : List ℤ) → length xs ≡ 4096 → length ys ≡ 64 → length (take 4032 xs ++ ys) ≡ 4096
seam_length xs ys l m = simp (length-append, length-take) (omega arith)

-- a part lent of the last 64 places that came back as ys
pub put_last : (xs ys : List ℤ) → length xs ≡ 4096 → put_mid 4032 64 xs ys ≡ take 4032 xs ++ ys
put_last xs ys l = ap (λ (zs : List ℤ). take 4032 xs ++ (ys ++ zs)) (drop_of_length-le (drop 4032 xs) {i = 64} (simp length-drop (omega arith)))
    ∙ ap (λ (zs : List ℤ). take 4032 xs ++ zs) (append-nil ys)

pub seam_near : {B : ℕ} (xs ys : List ℤ) → length xs ≡ 4096 → length ys ≡ 64 → AllNear B xs → ((i : ℕ) → i < 64 → Near B (at ys i)) →
    AllNear B (take 4032 xs ++ ys)
seam_near {B} xs ys l m n p = record { all = λ k. place k (dec_lt k 4032) (dec_lt k 4096) }
  where
    place : (k : ℕ) → Dec (k < 4032) → Dec (k < 4096) → Near B (at (take 4032 xs ++ ys) k)
    place k (yes h) d = subst (Near B) (sym (front_at xs ys k l h)) (n.all k)
    place k (no h) (yes d) = subst (λ (j : ℕ). Near B (at (take 4032 xs ++ ys) j)) {x = 4032 + (k - 4032)} (omega arith)
        (subst (Near B) (sym (back_at xs ys (k - 4032) l)) (p (k - 4032) (omega arith)))
    place k (no h) (no d) = subst (Near B) (sym (get_or-eq_default (take 4032 xs ++ ys) (pos 0) {n = k} (omega (arith, seam_length xs ys l m))))
        (record { near = zero-le })

-- ---- LL3's sums

-- the sums of LL3 lent as a part
pub part_sums : (xs : List ℤ) (i : ℕ) → i < 64 → sum_to (at (take 64 (drop 4032 xs))) (i + 1) ≡ sums_of xs i
unfolding sums_of
part_sums xs i h = sum_cong (at (take 64 (drop 4032 xs))) (ll3 xs) (i + 1) (λ k l. part_at xs 4032 64 k (omega arith))

pub sums_listed :
    (xs ys : List ℤ) → length xs ≡ 4096 → ys ≡ table 64 (λ (i : ℕ). sum_to (at (take 64 (drop 4032 xs))) (i + 1)) → put_mid 4032 64 xs ys ≡ summed xs
unfolding summed
sums_listed xs ys l w =
    put_last xs ys l
    ∙ ap (λ (zs : List ℤ). take 4032 xs ++ zs) (is_tab 64 (sums_of xs) ys (ap length w ∙ length_tab 64 _)
    (λ i h. ap (λ (zs : List ℤ). at zs i) w ∙ (at_tab 64 (λ (i : ℕ). sum_to (at (take 64 (drop 4032 xs))) (i + 1)) i h ∙ part_sums xs i h)))

pub summed_near : (xs : List ℤ) → length xs ≡ 4096 → AllNear 32767 xs → 0 ≡ sums_fault xs → (length (summed xs) ≡ 4096) × AllNear 32767 (summed xs)
unfolding summed sums_fault
summed_near xs l n e =
    let t = length_tab 64 (sums_of xs) in
    let a = (held (all_in (sums_of xs) 64) 9 0 0 (λ z. omega arith) e).0 in (
      seam_length xs (table 64 (sums_of xs)) l t,
      seam_near xs (table 64 (sums_of xs)) l t n
          (λ i h. subst (Near 32767) (sym (at_tab 64 (sums_of xs) i h)) (all_each (sums_of xs) 64 a i h)),
    )

-- ---- band after band: the places below a are done, the others are as they were

pub record Done (F : ℕ → ℤ) (a : ℕ) (before after : List ℤ) : Type 0 where
  pub same : length after ≡ length before
  pub done : (k : ℕ) → k < a → at after k ≡ F k
  pub rest : (k : ℕ) → a ≤ k → at after k ≡ at before k

pub done_none : (F : ℕ → ℤ) (before : List ℤ) → Done F 0 before before
done_none F before = record { same = refl; done = λ k h. absurd (omega arith); rest = λ k h. refl }

pub done_all : (F : ℕ → ℤ) (n : ℕ) (before after : List ℤ) → length before ≡ n → Done F n before after → after ≡ table n F
done_all F n before after l d = is_tab n F after (d.same ∙ l) d.done

-- one place more
pub done_put : (F : ℕ → ℤ) (i : ℕ) (before xs : List ℤ) (v : ℤ) → i < length before → v ≡ F i → Done F i before xs → Done F (i + 1) before (set xs i v)
done_put F i before xs v h e d = record {
  same = length-set xs i v ∙ d.same;
  done = put_new (λ n. n) F xs i v (omega (arith, d.same)) (λ n k. omega arith) e d.done;
  rest = λ k l. get_or-set_other xs i k v (pos 0) (omega arith) ∙ d.rest k (omega arith);
}

-- one band more: G is what is done to a value of it
module _ (F : ℕ → ℤ) (G : ℤ → ℤ) (before xs : List ℤ) (a e : ℕ) (from : a ≤ e) (to : e ≤ length xs) (d : Done F a before xs)
    (here : (k : ℕ) → a ≤ k → k < e → G (at before k) ≡ F k) where
  part_is : (i : ℕ) → i < e - a → G (at (take (e - a) (drop a xs)) i) ≡ F (a + i)
  part_is i h = ap G (part_at xs a (e - a) i h ∙ d.rest (a + i) (omega arith)) ∙ here (a + i) (omega arith) (omega arith)

  pub band_done : (ys : List ℤ) → ys ≡ table (length (take (e - a) (drop a xs))) (λ (i : ℕ). G (at (take (e - a) (drop a xs)) i)) →
      Done F e before (put_mid a (e - a) xs ys)
  band_done ys w =
      let l = part_length xs a e from to in
      let g : ℕ → ℤ = λ i. G (at (take (e - a) (drop a xs)) i) in
      let w2 : ys ≡ table (e - a) g = w ∙ ap (λ (m : ℕ). table m g) l in
      let yl : length ys ≡ e - a = ap length w2 ∙ length_tab (e - a) g in
      let fit : a + (e - a) ≤ length xs = omega arith in
      record {
        same = put_length xs ys a (e - a) fit yl ∙ d.same;
        done = λ k h. place ys w2 yl fit k h (dec_lt k a);
        rest = λ k h.
            let n : a + ((e - a) + (k - e)) ≡ k = omega arith in
            subst (λ (m : ℕ). at (put_mid a (e - a) xs ys) m ≡ at before m) n (put_above xs ys a (e - a) fit yl (k - e)
            ∙ d.rest (a + ((e - a) + (k - e))) (omega arith));
      }
    where
      place : (ys : List ℤ) → ys ≡ table (e - a) (λ (i : ℕ). G (at (take (e - a) (drop a xs)) i)) → length ys ≡ e - a → a + (e - a) ≤ length xs → (k : ℕ) →
          k < e → Dec (k < a) → at (put_mid a (e - a) xs ys) k ≡ F k
      place ys w yl fit k h (yes p) = put_below xs ys a (e - a) fit yl k p ∙ d.done k p
      place ys w yl fit k h (no p) =
          let n : a + (k - a) ≡ k = omega arith in
          let i : k - a < e - a = omega arith in
          subst (λ (m : ℕ). at (put_mid a (e - a) xs ys) m ≡ F m) n
          (put_in xs ys a (e - a) fit yl (k - a) i ∙ (ap (λ (zs : List ℤ). at zs (k - a)) w
          ∙ (at_tab (e - a) (λ (i : ℕ). G (at (take (e - a) (drop a xs)) i)) (k - a) i ∙ part_is (k - a) i)))

-- the same where what is done to a value is told by a relation: of the place, the value as it was and as it is
pub record DoneBy (R : ℕ → ℤ → ℤ → Type 0) (a : ℕ) (before after : List ℤ) : Type 0 where
  pub done : (k : ℕ) → k < a → R k (at before k) (at after k)
  pub rest : (k : ℕ) → a ≤ k → at after k ≡ at before k

pub by_none : (R : ℕ → ℤ → ℤ → Type 0) (before : List ℤ) → DoneBy R 0 before before
by_none R before = record { done = λ k h. absurd (omega arith); rest = λ k h. refl }

-- one place more
pub by_put : (R : ℕ → ℤ → ℤ → Type 0) (i : ℕ) (before xs : List ℤ) (v : ℤ) → i < length xs → R i (at before i) v → DoneBy R i before xs →
    DoneBy R (i + 1) before (set xs i v)
by_put R i before xs v h e d = record {
  done = below_more (λ k. R k (at before k) (at (set xs i v) k)) i
      (λ k l. subst (R k (at before k)) (sym (get_or-set_other xs i k v (pos 0) (omega arith))) (d.done k l))
      (subst (R i (at before i)) (sym (get_or-set_same xs i v (pos 0) h)) e);
  rest = λ k l. get_or-set_other xs i k v (pos 0) (omega arith) ∙ d.rest k (omega arith);
}

-- one band more: ys is what came back of the part from a to e
pub by_part : (R : ℕ → ℤ → ℤ → Type 0) (before xs ys : List ℤ) (a e : ℕ) → a ≤ e → e ≤ length xs → length ys ≡ e - a → DoneBy R a before xs →
    ((i : ℕ) → i < e - a → R (a + i) (at before (a + i)) (at ys i)) → DoneBy R e before (put_mid a (e - a) xs ys)
by_part R before xs ys a e from to yl d here = record {
  done = λ k h. place k h (dec_lt k a);
  rest = λ k h.
      let n : a + ((e - a) + (k - e)) ≡ k = omega arith in
      subst (λ (m : ℕ). at (put_mid a (e - a) xs ys) m ≡ at before m) n (put_above xs ys a (e - a) fit yl (k - e)
      ∙ d.rest (a + ((e - a) + (k - e))) (omega arith));
}
  where
    fit : a + (e - a) ≤ length xs
    fit = omega arith

    place : (k : ℕ) → k < e → Dec (k < a) → R k (at before k) (at (put_mid a (e - a) xs ys) k)
    place k h (yes p) = subst (R k (at before k)) (sym (put_below xs ys a (e - a) fit yl k p)) (d.done k p)
    place k h (no p) =
        let n : a + (k - a) ≡ k = omega arith in
        let i : k - a < e - a = omega arith in
        subst (λ (m : ℕ). R m (at before m) (at (put_mid a (e - a) xs ys) m)) n
        (subst (R (a + (k - a)) (at before (a + (k - a)))) (sym (put_in xs ys a (e - a) fit yl (k - a) i)) (here (k - a) i))

-- what a band still has to be done is as near as it was
pub rest_near : {B : ℕ} (F : ℕ → ℤ) (before xs : List ℤ) (a k : ℕ) → Done F a before xs → AllNear B before → AllNear B (take k (drop a xs))
rest_near {B} F before xs a k d n = record { all = λ i. place i (dec_lt i k) }
  where
    place : (i : ℕ) → Dec (i < k) → Near B (at (take k (drop a xs)) i)
    place i (yes h) = subst (Near B) (sym (part_at xs a k i h ∙ d.rest (a + i) (omega arith))) (n.all (a + i))
    place i (no h) = subst (Near B) (sym (get_or-eq_default (take k (drop a xs)) (pos 0) {n = i} (simp length-take (omega arith))))
        (record { near = zero-le })

pub by_near : {B : ℕ} (R : ℕ → ℤ → ℤ → Type 0) (before xs : List ℤ) (a k : ℕ) → DoneBy R a before xs → AllNear B before → AllNear B (take k (drop a xs))
by_near {B} R before xs a k d n = record { all = λ i. place i (dec_lt i k) }
  where
    place : (i : ℕ) → Dec (i < k) → Near B (at (take k (drop a xs)) i)
    place i (yes h) = subst (Near B) (sym (part_at xs a k i h ∙ d.rest (a + i) (omega arith))) (n.all (a + i))
    place i (no h) = subst (Near B) (sym (get_or-eq_default (take k (drop a xs)) (pos 0) {n = i} (simp length-take (omega arith))))
        (record { near = zero-le })

-- ---- scaling

-- one band more: a is its first place, e where it ends, m its factor
module _ (q : List ℕ) (before xs : List ℤ) (a e : ℕ) (m : ℤ) (below : a < 4096) (end : e ≡ (band_at a).end) (len : length before ≡ 4096)
    (d : Done (scale_at q (at before)) a before xs) (factor : m ≡ pos (2 ^ (quant_at q a - 1))) where
  here : (k : ℕ) → a ≤ k → k < e → at before k *ℤ m ≡ scale_at q (at before) k
  here k l h = ap (λ (z : ℤ). at before k *ℤ z) (factor
      ∙ ap (λ (b : Band). pos (2 ^ (get_or q b.set 0 - 1))) (sym (same_band a k l (subst (λ (n : ℕ). k < n) end h))))

  pub scale_turn : (ys : List ℤ) → ys ≡ table (length (take (e - a) (drop a xs))) (λ (i : ℕ). at (take (e - a) (drop a xs)) i *ℤ m) →
      Done (scale_at q (at before)) e before (put_mid a (e - a) xs ys)
  scale_turn ys w =
      let t = band_good a in
      let u = t.behind below in
      band_done (scale_at q (at before)) (λ z. z *ℤ m) before xs a e (omega (arith, end)) (omega (arith, end, t.within, d.same)) d here ys w

pub scaled_near : (q : List ℕ) (xs : List ℤ) → 0 ≡ scale_fault q xs → (length (scaled_by q xs) ≡ 4096) × AllNear 32767 (scaled_by q xs)
unfolding scale_fault scaled_by
scaled_near q xs e =
    let f = scale_at q (at xs) in
    (length_tab 4096 f, tab_below 4096 f (all_each f 4096 (held (all_in f 4096) 9 0 0 (λ z. omega arith) e).0))
  where
    tab_below : {B : ℕ} (n : ℕ) (f : ℕ → ℤ) → ((k : ℕ) → k < n → Near B (f k)) → AllNear B (table n f)
    tab_below {B} n f p = record { all = λ i. place i (dec_lt i n) }
      where
        place : (i : ℕ) → Dec (i < n) → Near B (at (table n f) i)
        place i (yes h) = subst (Near B) (sym (at_tab n f i h)) (p i h)
        place i (no h) = subst (Near B) (sym (get_or-eq_default (table n f) (pos 0) (subst (λ (m : ℕ). m ≤ i) (sym (length_tab n f)) (omega arith))))
            (record { near = zero-le })
