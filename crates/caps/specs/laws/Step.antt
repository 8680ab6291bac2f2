-- Laws of the code's walk: where a step is taken, a layout comes to what its rest comes to behind the step; where it is refused, to that refusal.
-- Assumes nothing.
use Rattle.std.specs.Prelude.{ℕ, ◌+◌, ◌-◌, ◌≡◌, ◌⊎◌, ◌≤◌, ◌<◌, refl, Bool, true, false, List, eqb, leb, length, drop, Result, Ok, Err, IsErr, IsErrAnd}
use Rattle.std.proofs.Common.{ap, sym, ◌∙◌, ⊎_elim, arith, le-leb, leb-true, leb-false, eq-eqb, ne_eqb, length-drop}
use Rattle.std.proofs.lemmas.Bool.{lt-leb}
use Rattle.whole.specs.Row.{◌!◌⨾◌}
use Rattle.whole.specs.laws.Row.{fails, passes}
use Rattle.wire.specs.Refusal.{refusal_number, refusal_of}
use Rattle.wire.specs.laws.Refusal.{refusal_back, number_pos, handed_on}
use Rattle.wire.specs.declared.Refusal.{Refusal}
use Rattle.caps.specs.Walk.{size, most, number, Layout, refuse, field, ◌then◌, Came, Stopped, walk, ended, answered}
use Rattle.caps.specs.laws.Walk.{onward, walk_then, row_back, then_back}
use Rattle.caps.specs.Step.{number_at, Here, Short, Other, ends, Reads}
use Rattle.caps.specs.declared.walk.Width.{Width}
use Rattle.caps.specs.declared.walk.Width.TheVariants.{One, Two, Four}

number-at : (w : Width) (m : List ℕ) → number w m ≡ number_at w m 0
unfolding number number_at
number-at One m = refl
number-at Two m = refl
number-at Four m = refl

-- ---- a field

field_on : {A : Type 0} (w : Width) (next : ℕ → Layout A) (m : List ℕ) → size w ≤ length m →
    walk (field w next) m ≡ walk (next (number_at w m 0)) (drop (size w) m)
unfolding walk
field_on w next m h = sym (passes _ _ _ _ (le-leb (size w) (length m) h) refl) ∙ ap (λ (n : ℕ). walk (next n) (drop (size w) m)) (number-at w m)

pub next_on : {A : Type 0} {w : Width} {m m' : List ℕ} {v : ℕ} (next : ℕ → Layout A) → Here w m m' v → walk (field w next) m ≡ walk (next v) m'
next_on {w = w} {m = m} next h = rw (h.is, h.left) (field_on w next m h.there)

pub next_off : {A : Type 0} {w : Width} {m m' : List ℕ} {n : ℕ} (next : ℕ → Layout A) → Short w m m' n → walk (field w next) m ≡ Stopped n
unfolding walk
next_off {w = w} {m = m} next h = sym (fails _ _ _ _ (lt-leb (size w) (length m) h.short) refl) ∙ ap Stopped (sym h.cut)

-- ---- a row

pub row_stops : {A : Type 0} (t : Bool) (n : ℕ) (l : Layout A) (m : List ℕ) → t ≡ false → walk (t ! refuse n ⨾ l) m ≡ Stopped n
unfolding walk
row_stops {A = A} t n l m h = ap (λ (k : Layout A). walk k m) (sym (fails _ _ _ _ h refl))

-- ---- a field with a fixed value

pub fixed_on : {A : Type 0} {w : Width} {m m' : List ℕ} {v : ℕ} (n : ℕ) (l : Layout A) → Here w m m' v →
    walk (field w λ y. eqb y v ! refuse n ⨾ l) m ≡ walk l m'
fixed_on {v = v} n l h = next_on _ h ∙ row_back (eqb v v) n l _ (eq-eqb v v refl)

pub fixed_off : {A : Type 0} {w : Width} {v n k : ℕ} {m m' : List ℕ} (l : Layout A) → Short w m m' k ⊎ Other w v n m m' k →
    walk (field w λ y. eqb y v ! refuse n ⨾ l) m ≡ Stopped k
fixed_off {v = v} {n = n} l h = ⊎_elim
    (λ s. next_off _ s)
    (λ o. field_on _ _ _ o.there ∙ row_stops _ n l _ (ne_eqb _ v o.not) ∙ ap Stopped (sym o.refused)) h

-- ---- one layout behind another

pub then_on : {A B : Type 0} (l : Layout A) (m : List ℕ) {m' : List ℕ} {a : A} (next : A → Layout B) → walk l m ≡ Came a m' →
    walk (l then next) m ≡ walk (next a) m'
then_on l m next e = then_back l next m _ _ e

pub stops_then : {A B : Type 0} (l : Layout A) (next : A → Layout B) (m : List ℕ) (k : ℕ) → walk l m ≡ Stopped k → walk (l then next) m ≡ Stopped k
stops_then l next m k e = walk_then l next m ∙ ap (onward next) e

-- ---- a `?` passes on what the step was refused with

pub passed_on : {A : Type 0} (l : Layout A) (m m' : List ℕ) (r : Result A Refusal) (e : Refusal) → IsErr r × IsErrAnd r (λ q. q ≡ e) →
    walk l m ≡ Stopped (refusal_number e) → Reads l m m' r
passed_on l m m' (Ok a) e h w = absurd h.1
passed_on l m m' (Err q) e h w = w ∙ ap (λ (x : Refusal). Stopped (refusal_number x)) (sym h.1)

-- ---- the last step is another reader's

pub goes_on : {A : Type 0} (l k : Layout A) (m mid m' : List ℕ) (r : Result A Refusal) → walk l m ≡ walk k mid → Reads k mid m' r → Reads l m m' r
goes_on l k m mid m' (Ok a) e h = e ∙ h
goes_on l k m mid m' (Err q) e h = e ∙ h

-- ---- the whole message

pub all_refused : {A : Type 0} (l : Layout A) (m : List ℕ) (r : Result A Refusal) (e : Refusal) → IsErrAnd r (λ q. q ≡ e) →
    walk l m ≡ Stopped (refusal_number e) → r ≡ answered (walk l m)
unfolding ended
all_refused l m r e h w = handed_on _ _ h ∙ ap Err (sym (refusal_back e)) ∙ sym (ap answered w)

module _ {A : Type 0} (l : Layout A) (m m' : List ℕ) (a : A) (w : walk l m ≡ Came a m') where
  pub all_longer : (r : Result A Refusal) (e : Refusal) → IsErrAnd r (λ q. q ≡ e) → refusal_number e ≡ ends m' → r ≡ answered (walk l m)
  unfolding ended ends
  all_longer r e h n = go (eqb (length m') 0) refl
    where
      go : (t : Bool) → eqb (length m') 0 ≡ t → r ≡ answered (walk l m)
      go true t = absurd (number_pos e (n ∙ sym (passes _ _ _ _ t refl)))
      go false t =
          let four : refusal_number e ≡ 4 = n ∙ sym (fails _ _ _ _ t refl) in
          handed_on _ _ h ∙ ap Err (sym (refusal_back e) ∙ ap refusal_of four) ∙ fails _ _ _ _ t refl ∙ sym (ap answered w)

  pub all_taken : 0 ≡ ends m' → Ok a ≡ answered (walk l m)
  unfolding ended ends
  all_taken n = go (eqb (length m') 0) refl
    where
      go : (t : Bool) → eqb (length m') 0 ≡ t → Ok a ≡ answered (walk l m)
      go true t = passes _ _ _ _ t refl ∙ sym (ap answered w)
      go false t = let four : 4 ≡ ends m' = fails _ _ _ _ t refl in absurd (omega (arith, four, n))

-- ---- n bytes stand at a place

same_test : (a b c d : ℕ) → (a ≤ b → c ≤ d) → (c ≤ d → a ≤ b) → leb a b ≡ leb c d
same_test a b c d f g = go (leb a b) refl
  where
    go : (t : Bool) → leb a b ≡ t → leb a b ≡ leb c d
    go true e = e ∙ sym (le-leb c d (f (leb-true a b e)))
    go false e =
        let h : b < a = leb-false a b e in
        e ∙ sym (not_le c d (λ k. omega (arith, g k)))
      where
        not_le : (c d : ℕ) → (c ≤ d → ⊥) → leb c d ≡ false
        not_le c d h = lt-leb c d (omega arith)

pub there_at : (at n len : ℕ) → n ≤ len → leb at (len - n) ≡ leb (at + n) len
there_at at n len h = same_test at (len - n) (at + n) len (λ k. omega arith) (λ k. omega arith)

pub not_there : (at n len : ℕ) → len < n → false ≡ leb (at + n) len
not_there at n len h = sym (lt-leb (at + n) len (omega arith))

pub is_there : {r : Bool} (at n len : ℕ) → r ≡ leb (at + n) len → r ≡ true → at + n ≤ len
is_there at n len e t = leb-true (at + n) len (sym e ∙ t)

least : (w : Width) → 0 < most w
least One = omega arith
least Two = omega arith
least Four = omega arith

some : (w : Width) → 0 < size w
unfolding size
some One = omega arith
some Two = omega arith
some Four = omega arith

there_left : (w : Width) (m : List ℕ) (at : ℕ) → leb (size w) (length (drop at m)) ≡ leb (at + size w) (length m)
there_left w m at = rw length-drop (same_test (size w) (length m - at) (at + size w) (length m) (λ k. omega (arith, some w)) (λ k. omega arith))
