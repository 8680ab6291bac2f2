-- Lists of tile numbers: what rising, existing and listed say of their places, and a finger that walks along a rising list.
use Rattle.std.specs.Prelude.{ℕ, zero, suc, ◌+◌, ◌-◌, ◌≤◌, ◌<◌, ◌≡◌, refl, Bool, true, false, List, [], ◌∷◌, length, get_or, eqb, ltb}
use Rattle.std.proofs.Common.{sym, subst, ◌∙◌, arith, add-one, ltb-true, lt-ltb, eqb-true, eq-eqb}
use Rattle.std.specs.List.{IsAllAdjacentAnswer}
use Rattle.std.proofs.Math.Decide.{dec_lt}
use Rattle.whole.specs.Row.{◌⇒◌∣◌}
use Rattle.whole.specs.laws.Row.{passes, held, case_yes}
use Rattle.plan.specs.Plan.{rising, below, is_listed}
use Rattle.plan.specs.Facts.{StrictlyRising, AllExist}
use Rattle.plan.specs.Runs.{listed_at}
use Rattle.plan.specs.laws.All.{yes_not_no, other_test, all_is, is_all, all_fails}

-- ---- "strictly rising"

-- the number at place i is below the next
abbrev pub rises_at : List ℕ → ℕ → Bool
rises_at ks i = ltb (get_or ks i 0) (get_or ks (i + 1) 0)

pub rising_is : (ks : List ℕ) → rising ks ≡ true → StrictlyRising ks
unfolding rising
rising_is ks e i l = ltb-true _ _ (all_is (rises_at ks) (length ks - 1) e i (omega arith))

pub is-rising : (ks : List ℕ) → StrictlyRising ks → rising ks ≡ true
unfolding rising
is-rising ks r = is_all (rises_at ks) (length ks - 1) (λ i l. lt-ltb _ _ (r i (omega arith)))

-- what a walk over neighbours answers
pub rising_answer : (ks : List ℕ) (r : Bool) → IsAllAdjacentAnswer (λ a b t. t ≡ ltb a b) ks r → r ≡ rising ks
unfolding rising
rising_answer ks true h = sym (is_all (rises_at ks) (length ks - 1) (λ i l. sym (h i 0 (omega arith))))
rising_answer ks false h = all_fails (rises_at ks) (length ks - 1) h.0 (omega (arith, h.1)) (sym (h.2 0))

-- a number is below every later one
pub rising_apart : (ks : List ℕ) → StrictlyRising ks → (j i : ℕ) → i < j → j < length ks → get_or ks i 0 < get_or ks j 0
rising_apart ks r zero i l m = absurd (omega arith)
rising_apart ks r (suc j) i l m = by (dec_lt i j) (λ h. rising_apart ks r j i h (omega arith))
  where
    next : get_or ks j 0 < get_or ks (suc j) 0
    next = subst (λ (n : ℕ). get_or ks j 0 < get_or ks n 0) (add-one j) (r j (omega arith))

    by : Dec (i < j) → (i < j → get_or ks i 0 < get_or ks j 0) → get_or ks i 0 < get_or ks (suc j) 0
    by (yes h) s = omega (arith, s h, next)
    by (no h) s = let e : i ≡ j = omega arith in rw e next

-- it is no less than its place, so that there are no more of them than n, where all exist
rising_least : (ks : List ℕ) → StrictlyRising ks → (i : ℕ) → i < length ks → i ≤ get_or ks i 0
rising_least ks r zero l = omega arith
rising_least ks r (suc i) l = omega (arith, rising_least ks r i (omega arith), rising_apart ks r (suc i) i (omega arith) l)

pub rising_few : (n : ℕ) (ks : List ℕ) → StrictlyRising ks → AllExist n ks → length ks ≤ n
rising_few n ks r b = by (length ks) refl
  where
    by : (m : ℕ) → length ks ≡ m → m ≤ n
    by zero e = omega arith
    by (suc m) e = omega (arith, rising_least ks r m (omega arith), b m (omega arith))

-- and where a number is below another, it stands before it
pub rising_before : (ks : List ℕ) → StrictlyRising ks → (i j : ℕ) → i < length ks → get_or ks i 0 < get_or ks j 0 → i < j
rising_before ks r i j l h = by (dec_lt i j) (dec_lt j i)
  where
    by : Dec (i < j) → Dec (j < i) → i < j
    by (yes a) d = a
    by (no a) (yes b) = absurd (omega (arith, rising_apart ks r i j b l))
    by (no a) (no b) = let e : i ≡ j = omega arith in absurd (omega (arith, rw e at h))

-- ---- "all numbers exist"

abbrev pub is_below : ℕ → List ℕ → ℕ → Bool
is_below n ks i = ltb (get_or ks i 0) n

pub below_is : (n : ℕ) (ks : List ℕ) → below n ks ≡ true → AllExist n ks
unfolding below
below_is n ks e i l = ltb-true _ _ (all_is (is_below n ks) (length ks) e i l)

pub is-below : (n : ℕ) (ks : List ℕ) → AllExist n ks → below n ks ≡ true
unfolding below
is-below n ks b = is_all (is_below n ks) (length ks) (λ i l. lt-ltb _ _ (b i l))

-- ---- a number that is listed

-- where it stands
pub record Stands (k : ℕ) (ks : List ℕ) : Type 0 where
  pub place : ℕ
  pub inside : place < length ks
  pub is : get_or ks place 0 ≡ k

stands_later : {k a : ℕ} {ks : List ℕ} → Stands k ks → Stands k (a ∷ ks)
stands_later s = record { place = suc s.place; inside = omega (arith, s.inside); is = s.is }

pub listed_is : (k : ℕ) (ks : List ℕ) → is_listed k ks ≡ true → Stands k ks
unfolding is_listed ◌⇒◌∣◌
listed_is k [] e = absurd (yes_not_no (sym e))
listed_is k (a ∷ ks) e = by (eqb a k) refl (listed_is k ks) e
  where
    by : (t : Bool) → eqb a k ≡ t → (is_listed k ks ≡ true → Stands k ks) → (t ⇒ true ∣ is_listed k ks) ≡ true → Stands k (a ∷ ks)
    by true q s e = record { place = 0; inside = omega arith; is = eqb-true a k q }
    by false q s e = stands_later (s e)

pub is-listed : (k : ℕ) (ks : List ℕ) (i : ℕ) → i < length ks → get_or ks i 0 ≡ k → is_listed k ks ≡ true
unfolding is_listed ◌⇒◌∣◌
is-listed k [] i l e = absurd (omega arith)
is-listed k (a ∷ ks) zero l e = sym (case_yes _ _ _ _ (eq-eqb a k e) refl)
is-listed k (a ∷ ks) (suc i) l e = by (eqb a k) (is-listed k ks i (omega arith) e)
  where
    by : (t : Bool) → is_listed k ks ≡ true → (t ⇒ true ∣ is_listed k ks) ≡ true
    by true q = refl
    by false q = q

pub not_listed : (k : ℕ) (ks : List ℕ) → ((i : ℕ) → i < length ks → get_or ks i 0 ≡ k → ⊥) → is_listed k ks ≡ false
not_listed k ks n = other_test (is_listed k ks) (λ e. let s = listed_is k ks e in n s.place s.inside s.is)

-- ---- a finger in a rising list: numbers before it are below k, those from it on are not

pub record Finger (ks : List ℕ) (f k : ℕ) : Type 0 where
  pub within : f ≤ length ks
  pub before : (i : ℕ) → i < f → get_or ks i 0 < k
  pub after : (i : ℕ) → f ≤ i → i < length ks → k ≤ get_or ks i 0

pub finger_first : (ks : List ℕ) → Finger ks 0 0
finger_first ks = record { within = omega arith; before = λ i l. absurd (omega arith); after = λ i l m. omega arith }

pub record At (ks : List ℕ) (f k : ℕ) : Type 0 where
  pub inside : f < length ks
  pub is : get_or ks f 0 ≡ k

pub at_is : (ks : List ℕ) (f k : ℕ) → listed_at ks f k ≡ true → At ks f k
unfolding listed_at
at_is ks f k e =
    let q = held (ltb f (length ks)) false _ true yes_not_no (sym e) in
    record { inside = ltb-true _ _ q.0; is = eqb-true _ _ (sym q.1) }

at_not : (ks : List ℕ) (f k : ℕ) → listed_at ks f k ≡ false → f < length ks → get_or ks f 0 ≡ k → ⊥
unfolding listed_at
at_not ks f k e l q = yes_not_no (passes _ _ _ _ (lt-ltb _ _ l) (sym (eq-eqb _ _ q)) ∙ e)

module _ (ks : List ℕ) (r : StrictlyRising ks) (f k : ℕ) (g : Finger ks f k) where
  pub finger_on : listed_at ks f k ≡ true → Finger ks (f + 1) (k + 1)
  finger_on e =
      let a = at_is ks f k e in
      record {
        within = omega (arith, a.inside);
        before = λ i l. by_before i l (dec_lt i f);
        after = λ i l m. omega (arith, a.is, rising_apart ks r i f (omega arith) m);
      }
    where
      by_before : (i : ℕ) → i < f + 1 → Dec (i < f) → get_or ks i 0 < k + 1
      by_before i l (yes h) = omega (arith, g.before i h)
      by_before i l (no h) = let q : i ≡ f = omega arith in rw q (omega (arith, (at_is ks f k e).is))

  -- the number at the finger is another, so all from it on are above k
  pub above : listed_at ks f k ≡ false → (i : ℕ) → f ≤ i → i < length ks → k < get_or ks i 0
  above e i l m = by (dec_lt f i)
    where
      here : (j : ℕ) → j ≡ f → j < length ks → k < get_or ks j 0
      here j q n = rw q (omega (arith, g.after f (omega arith) (omega arith), at_not ks f k e (omega arith)))

      by : Dec (f < i) → k < get_or ks i 0
      by (yes h) = omega (arith, g.after f (omega arith) (omega arith), rising_apart ks r i f h m)
      by (no h) = here i (omega arith) m

  pub finger_stays : listed_at ks f k ≡ false → Finger ks f (k + 1)
  finger_stays e = record { within = g.within; before = λ i l. omega (arith, g.before i l); after = λ i l m. omega (arith, above e i l m) }

  pub finger_listed : listed_at ks f k ≡ true → is_listed k ks ≡ true
  finger_listed e = let a = at_is ks f k e in is-listed k ks f a.inside a.is

  pub finger_not : listed_at ks f k ≡ false → is_listed k ks ≡ false
  finger_not e = not_listed k ks (λ i l q. by i l q (dec_lt i f))
    where
      by : (i : ℕ) → i < length ks → get_or ks i 0 ≡ k → Dec (i < f) → ⊥
      by i l q (yes h) = omega (arith, g.before i h)
      by i l q (no h) = omega (arith, above e i (omega arith) l)
