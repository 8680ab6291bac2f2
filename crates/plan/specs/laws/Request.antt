-- All that specs/Request states is so.
use Rattle.std.specs.Prelude.{ℕ, zero, suc, ◌≤◌, ◌<◌, Bool, List, length, get_or, drop, Result}
use Rattle.std.proofs.Math.Path.{◌≡◌, refl, sym}
use Rattle.std.proofs.Common.{ap, subst, ◌∙◌, arith, add-one}
use Rattle.std.proofs.Math.Bool.{true, false}
use Rattle.std.proofs.Math.Seq.{take-append_seam, drop-append_seam}
use borrow.Author.Tests.{le-leb, eqb-true, eq-eqb}
use Rattle.whole.specs.Row.{◌!◌⨾◌}
use Rattle.whole.specs.laws.Row.{passes, fails, held, both, stops, goes_on}
use Rattle.wire.specs.Le.{written}
use Rattle.wire.specs.Wrote.{length_said, out_left}
use Rattle.session.specs.Header.{size_good}
use Rattle.frame_pieces.specs.Parts.{tiles_no, pixels_good}
use Rattle.plan.specs.Plan.{changed_tile, rising, below, is_listed, covers, pictures_fault, picks_fault, plan_fault, changed, make_fault}
use Rattle.plan.specs.Plan.{Size, Lengths, Pictures}
use Rattle.plan.specs.Made.{PlanMade}
use Rattle.plan.specs.Facts.{Unchanged, StrictlyRising, AllExist, AllListed, Contains, Acceptable}
use Rattle.plan.specs.Request.{CheckPlan, MakePlan, planned_by, SamePictures, RequestEleven}
use Rattle.plan.specs.laws.All.{yes_not_no, other_test, all_is, is_all}
use Rattle.plan.specs.laws.Same.{unchanged_is, is_unchanged, filled-same}
use Rattle.plan.specs.laws.Lists.{rising_is, is-rising, rising_before, below_is, is-below, listed_is, is-listed}
use Rattle.plan.specs.laws.Cover.{is_covered, listed_covered, same_covered, missing_covered}
use Rattle.plan.specs.laws.Changed.{those_meet, those_listed, those_rising, size_allowed, pictures_are}
use Rattle.plan.specs.laws.Made.{same_answer}
use Rattle.wire.specs.Refusal.{number_of, count_of}
use Rattle.wire.specs.declared.Refusal.{Refusal}

-- ---- the tests of the row, and what they say

size-good : (w h : ℕ) → Size w h → size_good w h ≡ true
unfolding size_good
size-good w h s =
    sym (passes _ _ _ _ (le-leb 1 w s.wide)
    (passes _ _ _ _ (le-leb w 4096 s.wider) (passes _ _ _ _ (le-leb 1 h s.high) (sym (le-leb h 2048 s.higher)))))

size_is : (w h : ℕ) → size_good w h ≡ true → Size w h
size_is w h e = let s = size_allowed w h e in record { wide = s.some_w; wider = s.most_w; high = s.some_h; higher = s.most_h }

pub changed_is : (old new : List ℕ) (w h k : ℕ) → changed_tile old new w h k ≡ true → Unchanged old new w h k → ⊥
changed_is old new w h k e u = yes_not_no (sym e ∙ is_unchanged old new w h k u)

is-changed : (old new : List ℕ) (w h k : ℕ) → (Unchanged old new w h k → ⊥) → changed_tile old new w h k ≡ true
is-changed old new w h k n = by (changed_tile old new w h k) refl
  where
    by : (t : Bool) → changed_tile old new w h k ≡ t → t ≡ true
    by true e = refl
    by false e = absurd (n (unchanged_is old new w h k e))

covers_is : (old new : List ℕ) (w h : ℕ) (ks : List ℕ) → covers old new w h ks ≡ true → AllListed old new w h ks
unfolding covers
covers_is old new w h ks e k l n = by (is_listed k ks) refl
  where
    by : (t : Bool) → is_listed k ks ≡ t → t ≡ true
    by true q = refl
    by false q =
        absurd (yes_not_no (sym (all_is (is_covered old new w h ks) (tiles_no w h) e k l) ∙ missing_covered old new w h ks k (is-changed old new w h k n) q))

is_covers : (old new : List ℕ) (w h : ℕ) (ks : List ℕ) → AllListed old new w h ks → covers old new w h ks ≡ true
unfolding covers
is_covers old new w h ks a = is_all (is_covered old new w h ks) (tiles_no w h) (λ k l. by k l (changed_tile old new w h k) refl)
  where
    by : (k : ℕ) → k < tiles_no w h → (t : Bool) → changed_tile old new w h k ≡ t → is_covered old new w h ks k ≡ true
    by k l true e = listed_covered old new w h ks k (a k l (changed_is old new w h k e))
    by k l false e = same_covered old new w h ks k e

-- ---- the pictures' fault

module _ (w h : ℕ) (old new : List ℕ) where
  pictures_good : Pictures w h old new → pictures_fault w h (length old) (length new) ≡ 0
  unfolding pictures_fault pixels_good
  pictures_good p =
      sym (passes _ _ _ _ (size-good w h p.size)
      (passes _ _ _ _ (eq-eqb _ _ p.lengths.old_long) (passes _ _ _ _ (eq-eqb _ _ p.lengths.new_long) refl)))

  size_wrong : (Size w h → ⊥) → 5 ≡ pictures_fault w h (length old) (length new)
  unfolding pictures_fault
  size_wrong n = fails _ _ _ _ (other_test (size_good w h) (λ e. n (size_is w h e))) refl

  lengths : pixels_good w h (length old) ≡ true → pixels_good w h (length new) ≡ true → Lengths w h old new
  unfolding pixels_good
  lengths a b = record { old_long = eqb-true _ _ a; new_long = eqb-true _ _ b }

  lengths_wrong : Size w h → (Lengths w h old new → ⊥) → 2 ≡ pictures_fault w h (length old) (length new)
  unfolding pictures_fault ◌!◌⨾◌
  lengths_wrong s n = passes _ _ _ _ (size-good w h s) (by (pixels_good w h (length old)) (pixels_good w h (length new)) refl refl)
    where
      by : (t u : Bool) → pixels_good w h (length old) ≡ t → pixels_good w h (length new) ≡ u → ◌≡◌ {A = ℕ} 2 (t ! 2 ⨾ u ! 2 ⨾ 0)
      by true true a b = absurd (n (lengths a b))
      by true false a b = refl
      by false u a b = refl

-- ---- the whole answer

module _ (w h : ℕ) (old new ks : List ℕ) where
  pub fault_of_list : Pictures w h old new → (x : ℕ) → x ≡ picks_fault old new w h ks → plan_fault w h old new ks ≡ x
  unfolding plan_fault
  fault_of_list p x e = sym (goes_on _ _ x (pictures_good w h old new p) e)

  fault_of_pictures : (x : ℕ) → x ≡ pictures_fault w h (length old) (length new) → (x ≡ 0 → ⊥) → plan_fault w h old new ks ≡ x
  unfolding plan_fault
  fault_of_pictures x e n = sym (stops _ _ x (λ z. n (e ∙ z)) e)

  order_wrong : (StrictlyRising ks → ⊥) → 16 ≡ picks_fault old new w h ks
  unfolding picks_fault
  order_wrong n = fails _ _ _ _ (other_test (rising ks) (λ e. n (rising_is ks e))) refl

  tile_wrong : StrictlyRising ks → (AllExist (tiles_no w h) ks → ⊥) → 8 ≡ picks_fault old new w h ks
  unfolding picks_fault
  tile_wrong r n = passes _ _ _ _ (is-rising ks r) (fails _ _ _ _ (other_test (below (tiles_no w h) ks) (λ e. n (below_is (tiles_no w h) ks e))) refl)

  tile_missing : StrictlyRising ks → AllExist (tiles_no w h) ks → (AllListed old new w h ks → ⊥) → 17 ≡ picks_fault old new w h ks
  unfolding picks_fault
  tile_missing r b n =
      passes _ _ _ _ (is-rising ks r)
      (passes _ _ _ _ (is-below (tiles_no w h) ks b) (fails _ _ _ _ (other_test (covers old new w h ks) (λ e. n (covers_is old new w h ks e))) refl))

  pub list_good : StrictlyRising ks → AllExist (tiles_no w h) ks → AllListed old new w h ks → 0 ≡ picks_fault old new w h ks
  unfolding picks_fault
  list_good r b a =
      passes _ _ _ _ (is-rising ks r) (passes _ _ _ _ (is-below (tiles_no w h) ks b) (passes _ _ _ _ (is_covers old new w h ks a) refl))

  good_accepted : Acceptable w h old new ks → plan_fault w h old new ks ≡ 0
  good_accepted a = fault_of_list a.pictures 0 (list_good a.order a.exist a.all)

  pub accepted_good : plan_fault w h old new ks ≡ 0 → Acceptable w h old new ks
  unfolding plan_fault picks_fault
  accepted_good e =
      let f = both _ _ (sym e) in
      let p = pictures_are w h old new f.0 in
      let a = held _ _ _ _ (λ z. omega arith) f.1 in
      let b = held _ _ _ _ (λ z. omega arith) a.1 in
      let d = held _ _ _ _ (λ z. omega arith) b.1 in
      record {
        pictures = p;
        order = rising_is ks a.0;
        exist = below_is (tiles_no w h) ks b.0;
        all = covers_is old new w h ks d.0;
      }

more_listed :
    (w h : ℕ) (old new ks js : List ℕ)
    → plan_fault w h old new ks ≡ 0
    → StrictlyRising js
    → AllExist (tiles_no w h) js
    → Contains js ks
    → plan_fault w h old new js ≡ 0
more_listed w h old new ks js e r b c =
    let a = accepted_good w h old new ks e in
    good_accepted w h old new js (record { pictures = a.pictures; order = r; exist = b; all = λ k l n. c k (a.all k l n) })

-- ---- the planner's list

module _ (w h : ℕ) (old new : List ℕ) where
  differ : (k : ℕ) → is_listed k (changed old new w h) ≡ true → (k < tiles_no w h) × (Unchanged old new w h k → ⊥)
  unfolding changed
  differ k e =
      let s = listed_is k (changed old new w h) e in
      let m = those_meet (changed_tile old new w h) (tiles_no w h) s.place s.inside in
      (subst (λ (n : ℕ). n < tiles_no w h) s.is m.small, changed_is old new w h k (ap (changed_tile old new w h) (sym s.is) ∙ m.test))

  all-differ : (k : ℕ) → k < tiles_no w h → (Unchanged old new w h k → ⊥) → is_listed k (changed old new w h) ≡ true
  unfolding changed
  all-differ k l n = those_listed (changed_tile old new w h) (tiles_no w h) k l (is-changed old new w h k n)

  planned_rises : StrictlyRising (changed old new w h)
  unfolding changed
  planned_rises = rising_is (changed old new w h) (those_rising (changed_tile old new w h) (tiles_no w h))

  planned_exist : AllExist (tiles_no w h) (changed old new w h)
  unfolding changed
  planned_exist i l = (those_meet (changed_tile old new w h) (tiles_no w h) i l).small

  planned_accepted : Pictures w h old new → plan_fault w h old new (changed old new w h) ≡ 0
  planned_accepted p =
      good_accepted w h old new (changed old new w h)
      (record { pictures = p; order = planned_rises; exist = planned_exist; all = all-differ })

  planned_within : (ks : List ℕ) → plan_fault w h old new ks ≡ 0 → Contains ks (changed old new w h)
  planned_within ks e k m = let d = differ k m in (accepted_good w h old new ks e).all k d.0 d.1

-- a rising list that contains another is no shorter: the number at place j of the one stands at place j of the other or behind it
module _ (ks js : List ℕ) (r : StrictlyRising ks) (s : StrictlyRising js) (c : Contains ks js) where
  no_earlier : (j i : ℕ) → j < length js → i < length ks → get_or ks i 0 ≡ get_or js j 0 → j ≤ i
  no_earlier zero i l m e = omega arith
  no_earlier (suc j) i l m e =
      let a : j < length js = omega arith in
      let p = listed_is (get_or js j 0) ks (c (get_or js j 0) (is-listed (get_or js j 0) js j a refl)) in
      let b = no_earlier j p.place a p.inside p.is in
      let n : get_or js j 0 < get_or js (suc j) 0 = subst (λ (q : ℕ). get_or js j 0 < get_or js q 0) (add-one j) (s j (omega arith)) in
      let d = rising_before ks r p.place i p.inside (omega (arith, p.is, e, n)) in
      omega arith

  no_shorter : length js ≤ length ks
  no_shorter = by (length js) refl
    where
      by : (n : ℕ) → length js ≡ n → n ≤ length ks
      by zero e = omega arith
      by (suc n) e =
          let a : n < length js = omega arith in
          let p = listed_is (get_or js n 0) ks (c (get_or js n 0) (is-listed (get_or js n 0) js n a refl)) in
          omega (arith, p.inside, no_earlier n p.place a p.inside p.is)

-- ---- the planner's call

done_left : (f : ℕ) (ks out : List ℕ) → f ≡ 0 → out_left f ks out ≡ written ks out
unfolding out_left
done_left zero ks out e = refl
done_left (suc f) ks out e = absurd (omega arith)

refused_left : (f : ℕ) (ks out : List ℕ) → (f ≡ 0 → ⊥) → out_left f ks out ≡ out
unfolding out_left
refused_left zero ks out n = absurd (n refl)
refused_left (suc f) ks out n = refl

done_long : (f : ℕ) (ks : List ℕ) → f ≡ 0 → length_said f ks ≡ length ks
unfolding length_said
done_long zero ks e = refl
done_long (suc f) ks e = absurd (omega arith)

module _ (m : MakePlan) where
  abbrev fault : ℕ
  fault = make_fault m.width m.height m.old m.new (length m.out)

  abbrev list : List ℕ
  list = changed m.old m.new m.width m.height

  number_is : number_of m.answer ≡ fault
  number_is = m.promise.number

  module _ (e : number_of m.answer ≡ 0) where
    count_is : count_of m.answer ≡ length list
    count_is = m.promise.said ∙ done_long fault list (sym number_is ∙ e)

    left_is : m.out' ≡ written list m.out
    left_is = m.promise.left ∙ done_left fault list m.out (sym number_is ∙ e)

    lists_them : planned_by m ≡ list
    unfolding written
    lists_them = rw (count_is, left_is) (take-append_seam list (drop (length list) m.out))

    leaves_rest : drop (count_of m.answer) m.out' ≡ drop (count_of m.answer) m.out
    unfolding written
    leaves_rest = rw (count_is, left_is) (drop-append_seam list (drop (length list) m.out))

    were_good : Pictures m.width m.height m.old m.new
    unfolding make_fault
    were_good = pictures_are m.width m.height m.old m.new (both _ _ (sym e ∙ number_is)).0

  leaves_all : (number_of m.answer ≡ 0 → ⊥) → m.out' ≡ m.out
  leaves_all n = m.promise.left ∙ refused_left fault list m.out (λ z. n (number_is ∙ z))

own_accepted : (m : MakePlan) (c : CheckPlan) → number_of m.answer ≡ 0 → SamePictures m c → c.picks ≡ planned_by m → c.answer ≡ 0
own_accepted m c e s q =
    let a = planned_accepted m.width m.height m.old m.new (were_good m e) in
    c.promise ∙ (rw (q ∙ lists_them m e, ← s.width, ← s.height, ← s.old, ← s.new) a)

made_once :
    (w h : ℕ) (old new out a b : List ℕ) (r q : Result ℕ Refusal) → PlanMade w h old new out a r → PlanMade w h old new out b q → (r ≡ q) × (a ≡ b)
made_once w h old new out a b r q x y = (same_answer r q (x.number ∙ sym y.number) (x.said ∙ sym y.said), x.left ∙ sym y.left)

-- ---- the checker's call

module _ (c : CheckPlan) where
  by_pictures : (x : ℕ) → x ≡ pictures_fault c.width c.height (length c.old) (length c.new) → (x ≡ 0 → ⊥) → c.answer ≡ x
  by_pictures x e n = c.promise ∙ fault_of_pictures c.width c.height c.old c.new c.picks x e n

  by_list : Pictures c.width c.height c.old c.new → (x : ℕ) → x ≡ picks_fault c.old c.new c.width c.height c.picks → c.answer ≡ x
  by_list p x e = c.promise ∙ fault_of_list c.width c.height c.old c.new c.picks p x e

pub request_eleven : RequestEleven
request_eleven =
    record {
      accepted = λ c e. accepted_good c.width c.height c.old c.new c.picks (sym c.promise ∙ e);
      accepts = λ c a. c.promise ∙ good_accepted c.width c.height c.old c.new c.picks a;
      wrong_size = λ c n. by_pictures c 5 (size_wrong c.width c.height c.old c.new n) (λ z. omega arith);
      wrong_lengths = λ c s n. by_pictures c 2 (lengths_wrong c.width c.height c.old c.new s n) (λ z. omega arith);
      out_of_order = λ c p n. by_list c p 16 (order_wrong c.width c.height c.old c.new c.picks n);
      no_such_tile = λ c p r n. by_list c p 8 (tile_wrong c.width c.height c.old c.new c.picks r n);
      missing = λ c p r b n. by_list c p 17 (tile_missing c.width c.height c.old c.new c.picks r b n);
      more_may_be_listed = more_listed;
      fill_adds_nothing = λ w h k old new s l. filled-same w h k s.wide l old new;
      listed_differ = differ;
      differ_listed = all-differ;
      lists = lists_them;
      rest_untouched = leaves_rest;
      refused_untouched = leaves_all;
      own_list = planned_accepted;
      plan_accepted = own_accepted;
      contained = planned_within;
      none_shorter = λ w h old new ks e.
          no_shorter ks (changed old new w h) (accepted_good w h old new ks e).order (planned_rises w h old new) (planned_within w h old new ks e);
      one_number = λ c d w h o n k. c.promise ∙ (rw (w, h, o, n, k) (sym d.promise));
      one_answer = made_once;
      one_call = λ w h old new out a b i j m n x y. (x.said ∙ sym y.said, (x.count_is ∙ sym y.count_is, x.left ∙ sym y.left));
    }
