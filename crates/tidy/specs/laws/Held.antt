-- What waits, held in 38 bytes: the three numbers and the store make them (`held_is`), so a call that changes nothing leaves them as they were.
use Rattle.std.specs.Prelude.{ℕ, zero, suc, ◌+◌, ◌-◌, ◌≤◌, ◌≡◌, refl, List, [], ◌∷◌, ◌++◌, length, take, drop, set, Err}
use Rattle.std.proofs.Common.{ap, ap₂, subst, ◌∙◌, append-nil, arith, eq-eqb, ne_eqb, length-drop, drop_of_length-le, drop_at, take_all, length-take-le}
use Rattle.whole.specs.laws.Row.{passes, fails}
use Rattle.wire.specs.Wrote.{length_said, out_left}
use Rattle.wire.specs.Refusal.{refusal_number}
use Rattle.wire.specs.laws.Refusal.{number_pos}
use Rattle.wire.specs.declared.Refusal.{Refusal}
use Rattle.tidy.specs.declared.headers.Waiting.{Waiting}
use Rattle.tidy.specs.declared.headers.Gave.{Gave}
use Rattle.tidy.specs.Headers.{none, waiting_bytes, passed_on, waiting_after, store_after, header_fault, waiting_said, store_left, GaveOn}
use Rattle.tidy.specs.Held.{waiting_in, store_in, held_of, held_fault, HeldGave}

pub held_is : (h : List ℕ) → 3 ≤ length h → held_of (waiting_in h) (store_in h) ≡ h
held_is [] l = absurd (omega arith)
held_is (a ∷ []) l = absurd (omega arith)
held_is (a ∷ b ∷ []) l = absurd (omega arith)
held_is (a ∷ b ∷ c ∷ h) l = refl

pub three_set : (h : List ℕ) (a b c : ℕ) → 3 ≤ length h → set (set (set h 0 a) 1 b) 2 c ≡ a ∷ b ∷ c ∷ drop 3 h
three_set [] a b c l = absurd (omega arith)
three_set (x ∷ []) a b c l = absurd (omega arith)
three_set (x ∷ y ∷ []) a b c l = absurd (omega arith)
three_set (x ∷ y ∷ z ∷ h) a b c l = refl

-- the store lent and given back
pub part_all : (h : List ℕ) → take (length h - 3) (drop 3 h) ≡ store_in h
part_all h = take_all (length h - 3) (drop 3 h) (omega (arith, length-drop 3 h))

pub store_back : (h ys : List ℕ) → 3 ≤ length h → drop 3 (take 3 h ++ (ys ++ drop (length h - 3) (drop 3 h))) ≡ ys
store_back h ys l =
    drop_at (take 3 h) (ys ++ drop (length h - 3) (drop 3 h)) 3 (length-take-le 3 h l)
    ∙ ap (λ (z : List ℕ). ys ++ z) (drop_of_length-le (drop 3 h) {i = length h - 3} (omega (arith, length-drop 3 h))) ∙ append-nil ys

pub store_long : (h : List ℕ) → length h ≡ 38 → length (store_in h) ≡ 35
store_long h l = omega (arith, length-drop 3 h)

-- ---- one law for each way out

pub held_refused : (F : ℕ) (bytes after h out : List ℕ) (e : Refusal) → refusal_number e ≡ F → HeldGave F bytes after h h out out (Err e)
unfolding length_said store_left out_left
held_refused zero bytes after h out e n = absurd (number_pos e n)
held_refused (suc f) bytes after h out e n = record { number = n; size = refl; kept = refl; left = refl }

pub not_38 : (h : List ℕ) (most room : ℕ) → (length h ≡ 38 → ⊥) → 2 ≡ held_fault h most room
unfolding held_fault
not_38 h most room n = fails _ _ _ _ (ne_eqb (length h) 38 n) refl

is_38 : (h : List ℕ) (most room : ℕ) → length h ≡ 38 → header_fault (length (store_in h)) (waiting_in h) most room ≡ held_fault h most room
unfolding held_fault
is_38 h most room l =
    passes _ _ _ _ (eq-eqb (length h) 38 l) (ap (λ (n : ℕ). header_fault n (waiting_in h) most room) (store_long h l))

said : (F : ℕ) (next w : Waiting) (after store h : List ℕ) → held_of w store ≡ h →
    held_of (waiting_said F next w) (store_left F after store) ≡ store_left F (held_of next after) h
unfolding waiting_said store_left
said zero next w after store h e = refl
said (suc f) next w after store h e = e

module _ (h : List ℕ) (most : ℕ) (bytes : List ℕ) (next : Waiting) (after store' out out' h' : List ℕ) (g : Gave) (l : length h ≡ 38) where
  pub held_gave :
      GaveOn (header_fault (length (store_in h)) (waiting_in h) most (length out)) bytes next (waiting_in h) after (store_in h) store' out out' g →
      h' ≡ held_of g.waiting store' →
      HeldGave (held_fault h most (length out)) bytes (held_of next after) h h' out out' g.answer
  held_gave p e =
      let q = subst (λ (F : ℕ). GaveOn F bytes next (waiting_in h) after (store_in h) store' out out' g) (is_38 h most (length out) l) p in
      record {
        number = q.number;
        size = q.size;
        kept = e ∙ ap₂ held_of q.waiting q.kept
            ∙ said (held_fault h most (length out)) next (waiting_in h) after (store_in h) h (held_is h (omega arith));
        left = q.left;
      }

-- the same in the code's forms: w and store are what was read of the 38 bytes

module _ (h store store' out out' h' : List ℕ) (w : Waiting) (g : Gave) (l : length h ≡ 38) (ew : w ≡ waiting_in h) (es : store ≡ store_in h)
    (e : h' ≡ held_of g.waiting store') where
  pub given_held :
      (block : List ℕ) →
      GaveOn (header_fault (length store) w (35 + length block) (length out)) (passed_on w store block) (waiting_after w block) w (store_after w store block)
      store
      store' out out' g →
      HeldGave (held_fault h (35 + length block) (length out)) (passed_on (waiting_in h) (store_in h) block)
      (held_of (waiting_after (waiting_in h) block) (store_after (waiting_in h) (store_in h) block)) h h' out out' g.answer
  given_held block p =
      let q = subst (λ (x : List ℕ). GaveOn (header_fault (length x) w (35 + length block) (length out)) (passed_on w x block) (waiting_after w block) w
      (store_after w x block) x store' out out' g) es p in
      let r = subst (λ (v : Waiting). GaveOn (header_fault (length (store_in h)) v (35 + length block) (length out)) (passed_on v (store_in h) block)
      (waiting_after v block) v (store_after v (store_in h) block) (store_in h) store' out out' g) ew q in
      held_gave h (35 + length block) (passed_on (waiting_in h) (store_in h) block) (waiting_after (waiting_in h) block)
      (store_after (waiting_in h) (store_in h) block) store' out out' h' g l r e

  pub flushed_held :
      GaveOn (header_fault (length store) w 35 (length out)) (waiting_bytes w store) none w store store store' out out' g →
      HeldGave (held_fault h 35 (length out)) (waiting_bytes (waiting_in h) (store_in h)) (held_of none (store_in h)) h h' out out'
      g.answer
  flushed_held p =
      let q = subst (λ (x : List ℕ). GaveOn (header_fault (length x) w 35 (length out)) (waiting_bytes w x) none w x x store' out out' g) es p in
      let r = subst (λ (v : Waiting). GaveOn (header_fault (length (store_in h)) v 35 (length out)) (waiting_bytes v (store_in h)) none v (store_in h)
      (store_in h)
      store' out out' g) ew q in
      held_gave h 35 (waiting_bytes (waiting_in h) (store_in h)) none (store_in h) store' out out' h' g l r e
