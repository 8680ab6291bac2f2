-- The numbers that meet a test, as a list; and what is known of two pictures that were judged.
use Rattle.std.specs.Prelude.{ℕ, zero, suc, ◌+◌, ◌≤◌, ◌<◌, ◌≡◌, refl, Bool, true, false, List, [], ◌∷◌, ◌++◌, get_or, set}
use Rattle.std.proofs.Math.Path.{ap}
use Rattle.std.proofs.Common.{sym, ◌∙◌, add-one, length-append, length-set, eqb-true}
use native.Mathlib.Omega.{arith}
use Rattle.std.proofs.Math.Decide.{dec_lt}
use Rattle.std.proofs.Math.ListN.{length, get_or-append}
use Rattle.std.proofs.Math.Seq.{get_or-append_seam}
use Rattle.whole.specs.Row.{◌⇒◌∣◌}
use Rattle.whole.specs.laws.Row.{held, case_yes, case_no}
use Rattle.wire.specs.Le.{written}
use Rattle.wire.specs.Mode.{is_mode}
use Rattle.wire.specs.laws.Le.{none_written, set_patch, wrote_next}
use Rattle.session.specs.Header.{size_good}
use Rattle.session.specs.laws.Header.{Allowed, allowed}
use Rattle.frame_pieces.specs.Parts.{tiles_no, pixels_good}
use Rattle.plan.specs.Plan.{those, changed_tile, pictures_fault, Pictures, is_listed, rising, changed}
use Rattle.plan.specs.Facts.{StrictlyRising}
use Rattle.plan.specs.laws.All.{yes_not_no}
use Rattle.plan.specs.laws.Lists.{is-rising, is-listed, listed_is}

-- ---- one number more

pub those_yes : (p : ℕ → Bool) (n : ℕ) → p n ≡ true → those p (n + 1) ≡ those p n ++ (n ∷ [])
unfolding those
those_yes p n e = rw add-one (sym (case_yes _ _ _ _ e refl))

pub those_no : (p : ℕ → Bool) (n : ℕ) → p n ≡ false → those p (n + 1) ≡ those p n
unfolding those
those_no p n e = rw add-one (sym (case_no _ _ _ _ e refl))

-- ---- how many

pub count_none : (p : ℕ → Bool) → 0 ≡ length (those p 0)
unfolding those
count_none p = refl

pub count_yes : (p : ℕ → Bool) (n c : ℕ) → c ≡ length (those p n) → p n ≡ true → c + 1 ≡ length (those p (n + 1))
count_yes p n c e t = rw (those_yes p n t, length-append) (omega arith)

pub count_no : (p : ℕ → Bool) (n c : ℕ) → c ≡ length (those p n) → p n ≡ false → c ≡ length (those p (n + 1))
count_no p n c e t = rw (those_no p n t) e

pub those_few : (p : ℕ → Bool) (n : ℕ) → length (those p n) ≤ n
unfolding those ◌⇒◌∣◌
those_few p zero = omega arith
those_few p (suc n) = by (p n) (those_few p n)
  where
    by : (t : Bool) → length (those p n) ≤ n → length (t ⇒ those p n ++ (n ∷ []) ∣ those p n) ≤ suc n
    by true h = rw length-append (omega arith)
    by false h = omega arith

pub those_grow : (p : ℕ → Bool) (m n : ℕ) → m ≤ n → length (those p m) ≤ length (those p n)
unfolding those ◌⇒◌∣◌
those_grow p m zero h = let e : m ≡ 0 = omega arith in rw e (omega arith)
those_grow p m (suc n) h = by (dec_lt n m) (those_grow p m n)
  where
    step : (t : Bool) → length (those p n) ≤ length (t ⇒ those p n ++ (n ∷ []) ∣ those p n)
    step true = rw length-append (omega arith)
    step false = omega arith

    by : Dec (n < m) → (m ≤ n → length (those p m) ≤ length (those p n)) → length (those p m) ≤ length (those p (suc n))
    by (yes l) s = let e : m ≡ suc n = omega arith in rw e (omega arith)
    by (no l) s = omega (arith, s (omega arith), step (p n))

-- a list with room for all has room for one more
pub room_left : (p : ℕ → Bool) (k n i room : ℕ) → k < n → p k ≡ true → i ≡ length (those p k) → length (those p n) ≤ room → i < room
room_left p k n i room l t e m = omega (arith, count_yes p k i e t, those_grow p (k + 1) n (omega arith))

-- ---- which

pub record Meets (p : ℕ → Bool) (n k : ℕ) : Type 0 where
  pub small : k < n
  pub test : p k ≡ true

meets_more : {p : ℕ → Bool} {n k : ℕ} → Meets p n k → Meets p (suc n) k
meets_more m = record { small = omega (arith, m.small); test = m.test }

pub those_meet : (p : ℕ → Bool) (n i : ℕ) → i < length (those p n) → Meets p n (get_or (those p n) i 0)
unfolding those ◌⇒◌∣◌
those_meet p zero i l = absurd (omega arith)
those_meet p (suc n) i l = by (p n) refl (those_meet p n i) l
  where
    Earlier : Type 0
    Earlier = i < length (those p n) → Meets p n (get_or (those p n) i 0)

    last : (p n ≡ true) → (j : ℕ) → j ≡ length (those p n) → Meets p (suc n) (get_or (those p n ++ (n ∷ [])) j 0)
    last e j q = rw (q, get_or-append_seam (those p n) n [] 0) (record { small = omega arith; test = e })

    both : (p n ≡ true) → Earlier → i < length (those p n) + 1 → Dec (i < length (those p n)) → Meets p (suc n) (get_or (those p n ++ (n ∷ [])) i 0)
    both e s l (yes h) = rw (get_or-append (those p n) (n ∷ []) 0 i h) (meets_more (s h))
    both e s l (no h) = last e i (omega arith)

    by :
        (t : Bool)
        → p n ≡ t
        → Earlier
        → i < length (t ⇒ those p n ++ (n ∷ []) ∣ those p n)
        → Meets p (suc n) (get_or (t ⇒ those p n ++ (n ∷ []) ∣ those p n) i 0)
    by true e s l = both e s (omega (arith, length-append (those p n) (n ∷ []))) (dec_lt i (length (those p n)))
    by false e s l = meets_more (s l)

listed_front : (k : ℕ) (xs ys : List ℕ) → is_listed k xs ≡ true → is_listed k (xs ++ ys) ≡ true
listed_front k xs ys e =
    let s = listed_is k xs e in
    is-listed k (xs ++ ys) s.place (omega (arith, s.inside, length-append xs ys)) (get_or-append xs ys 0 s.place s.inside ∙ s.is)

listed_last : (k : ℕ) (xs : List ℕ) → is_listed k (xs ++ (k ∷ [])) ≡ true
listed_last k xs = is-listed k (xs ++ (k ∷ [])) (length xs) (rw length-append (omega arith)) (get_or-append_seam xs k [] 0)

pub those_listed : (p : ℕ → Bool) (n k : ℕ) → k < n → p k ≡ true → is_listed k (those p n) ≡ true
unfolding those ◌⇒◌∣◌
those_listed p zero k l e = absurd (omega arith)
those_listed p (suc n) k l e = by (p n) refl (λ h. those_listed p n k h e) (dec_lt k n)
  where
    by : (t : Bool) → p n ≡ t → (k < n → is_listed k (those p n) ≡ true) → Dec (k < n) → is_listed k (t ⇒ those p n ++ (n ∷ []) ∣ those p n) ≡ true
    by true q s (yes h) = listed_front k (those p n) (n ∷ []) (s h)
    by true q s (no h) = let z : k ≡ n = omega arith in rw z (listed_last n (those p n))
    by false q s (yes h) = s h
    by false q s (no h) = let z : k ≡ n = omega arith in absurd (yes_not_no (sym e ∙ ap p z ∙ q))

those_rises : (p : ℕ → Bool) (n : ℕ) → StrictlyRising (those p n)
unfolding those ◌⇒◌∣◌
those_rises p zero i l = absurd (omega arith)
those_rises p (suc n) i l = by (p n) (those_rises p n i) l
  where
    last : (i j : ℕ) → j ≡ length (those p n) → i < length (those p n) → get_or (those p n ++ (n ∷ [])) i 0 < get_or (those p n ++ (n ∷ [])) j 0
    last i j q h =
        rw (q, get_or-append_seam (those p n) n [] 0, get_or-append (those p n) (n ∷ []) 0 i h) (those_meet p n i h).small

    Earlier : Type 0
    Earlier = i + 1 < length (those p n) → get_or (those p n) i 0 < get_or (those p n) (i + 1) 0

    both :
        Dec (i + 1 < length (those p n))
        → Earlier
        → i + 1 < length (those p n) + 1
        → get_or (those p n ++ (n ∷ [])) i 0 < get_or (those p n ++ (n ∷ [])) (i + 1) 0
    both (yes h) s m =
        let a : i < length (those p n) = omega arith in
        rw (get_or-append (those p n) (n ∷ []) 0 i a, get_or-append (those p n) (n ∷ []) 0 (i + 1) h) (s h)
    both (no h) s m = last i (i + 1) (omega arith) (omega arith)

    by :
        (t : Bool)
        → Earlier
        → i + 1 < length (t ⇒ those p n ++ (n ∷ []) ∣ those p n)
        → get_or (t ⇒ those p n ++ (n ∷ []) ∣ those p n) i 0 < get_or (t ⇒ those p n ++ (n ∷ []) ∣ those p n) (i + 1) 0
    by true s m = both (dec_lt (i + 1) (length (those p n))) s (omega (arith, length-append (those p n) (n ∷ [])))
    by false s m = s m

pub those_rising : (p : ℕ → Bool) (n : ℕ) → rising (those p n) ≡ true
those_rising p n = is-rising (those p n) (those_rises p n)

-- ---- written into a list that is lent

-- the numbers below n stand in it, i of them, and the rest is as it was
pub record Listing (p : ℕ → Bool) (out₀ out : List ℕ) (i n : ℕ) : Type 0 where
  pub count : i ≡ length (those p n)
  pub list : out ≡ written (those p n) out₀
  pub long : length out ≡ length out₀

pub listing_none : (p : ℕ → Bool) (out : List ℕ) → Listing p out out 0 0
unfolding those
listing_none p out = record { count = refl; list = none_written out; long = refl }

module _ (p : ℕ → Bool) (out₀ out : List ℕ) (i n : ℕ) (s : Listing p out₀ out i n) where
  pub listing_yes : p n ≡ true → i < length out → Listing p out₀ (set out i n) (i + 1) (n + 1)
  listing_yes t l = record {
    count = count_yes p n i s.count t;
    list =
        wrote_next out (set out i n) (those p n) (n ∷ []) out₀ i (set_patch out i n (omega arith)) s.list (sym s.count)
        ∙ ap (λ (ks : List ℕ). written ks out₀) (sym (those_yes p n t));
    long = length-set out i n ∙ s.long;
  }

  pub listing_no : p n ≡ false → Listing p out₀ out i (n + 1)
  listing_no t = record {
    count = count_no p n i s.count t;
    list = s.list ∙ ap (λ (ks : List ℕ). written ks out₀) (sym (those_no p n t));
    long = s.long;
  }

-- ---- the planner's list

pub changed_few : (old new : List ℕ) (w h : ℕ) → length (changed old new w h) ≤ tiles_no w h
unfolding changed
changed_few old new w h = those_few (changed_tile old new w h) (tiles_no w h)

-- n is the number of tiles that a call gave
module _ (old new : List ℕ) (w h n : ℕ) (e : n ≡ tiles_no w h) (out₀ out : List ℕ) (i k : ℕ) (s : Listing (changed_tile old new w h) out₀ out i k) where
  pub listing_room : k < n → length (changed old new w h) ≤ length out₀ → changed_tile old new w h k ≡ true → i < length out
  unfolding changed
  listing_room l m t = room_left (changed_tile old new w h) k (tiles_no w h) i (length out) (omega arith) t s.count (omega (arith, s.long))

  pub listing_done : k ≤ n → n ≤ k → (i ≡ length (changed old new w h)) × (out ≡ written (changed old new w h) out₀)
  unfolding changed
  listing_done a b =
      let q : k ≡ tiles_no w h = omega arith in
      (s.count ∙ ap (λ (m : ℕ). length (those (changed_tile old new w h) m)) q, s.list ∙ ap (λ (m : ℕ). written (those (changed_tile old new w h) m) out₀) q)

-- ---- pictures that were judged

-- a size that 01 allows; a mode plays no part
pub size_allowed : (w h : ℕ) → size_good w h ≡ true → Allowed w h 1
unfolding is_mode ◌⇒◌∣◌
size_allowed w h e = allowed w h 1 e refl

-- what a passed check says
pub pictures_are : (w h : ℕ) (old new : List ℕ) → 0 ≡ pictures_fault w h (length old) (length new) → Pictures w h old new
unfolding pictures_fault pixels_good
pictures_are w h old new e =
    let a = held _ _ _ _ (λ z. omega arith) e in
    let b = held _ _ _ _ (λ z. omega arith) a.1 in
    let c = held _ _ _ _ (λ z. omega arith) b.1 in
    let s = size_allowed w h a.0 in
    record {
      size = record { wide = s.some_w; wider = s.most_w; high = s.some_h; higher = s.most_h };
      lengths = record { old_long = eqb-true _ _ b.0; new_long = eqb-true _ _ c.0 };
    }
