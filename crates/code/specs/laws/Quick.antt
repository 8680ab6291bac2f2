-- A turn by a word: an element that lies whole in the 57 bits at a place is the element at that place, and full runs are taken together.
use Rattle.std.specs.Prelude.{Option, None, Result, Ok, Err}
use Prim.Native.Nat.{ℕ, zero, suc, ◌+◌, ◌-◌, ◌/◌, ◌^◌, ◌≤◌, ◌<◌, min}
use Rattle.std.specs.Prelude.{◌≡◌, Bool, List, [], ◌∷◌, ◌++◌, ℤ, length}
use Rattle.std.proofs.Math.Path.{refl}
use Rattle.std.proofs.Common.{sym, ap, subst, ◌∙◌, arith, length-append, length-drop}
use Rattle.std.proofs.Math.Bool.{true, false}
use borrow.Author.Tests.{lt-ltb, le-ltb, ltb-true, ltb-false}
use Rattle.std.proofs.Math.Dec.{ltb}
use Rattle.std.proofs.Math.ListN.{drop, replicate}
use Rattle.whole.specs.Row.{◌⇒◌∣◌}
use Rattle.bits.specs.Bits.{got, bits_of, num_bits, num_of}
use Rattle.bits.specs.Word.{front_zeros}
use Rattle.bits.specs.laws.Bit.{length_num_bits}
use Rattle.bits.specs.laws.Here.{past, num_there}
use Rattle.bits.specs.laws.Word.{front_stop, word_small, word_zeros}
use Rattle.code.specs.Code.{raised}
use Rattle.code.specs.ReadList.{state_at, run_elem, run_first, elem_of, read_list}
use Rattle.code.specs.Fill.{jump, placed_of, stored_of, leap_of, onward_of, Storable, Kept, Fills, Filling, Open, Quickly, Turned, Worded, Rushed, value_of}
use Rattle.code.specs.laws.Filling.{elem_fine, filling_next, filling_end}
use Rattle.code.specs.laws.Moved.{later, elem_moved}
use Rattle.code.specs.laws.Taken.{Told, Took, elem_told}
use Rattle.code.specs.laws.There.{bit_here, elem_full}
use Rattle.code.specs.laws.Steps.{run_some, elem_high}
use Rattle.code.specs.declared.element.State.{State}
use Rattle.wire.specs.declared.Refusal.{Refusal}
use Rattle.wire.specs.declared.Refusal.TheVariants.{Cut}
use Rattle.code.specs.declared.element.Element.{Element}
use Rattle.code.specs.declared.element.Element.TheVariants.{Zeros, One, Two}

-- ---- an element of the word

no_err : {e : Element} {r : Refusal} → Ok e ≡ Err r → ⊥
no_err e = let z : ◌≡◌ {A = ℕ} 0 1 = cc in absurd (omega arith)

-- an element read in some bits ends in them
took_within :
    (rlgr3 : Bool) (kp krp left i : ℕ) (P : List Bool) (front : List ℕ) (s : State) → i ≤ length P → Took rlgr3 kp krp left i P front s → s.at ≤ length P
took_within rlgr3 kp krp left i P front s h t =
    let l : length (drop i P) ≡ length t.H + length (drop s.at P) = ap length t.bits ∙ length-append t.H (drop s.at P) in
    omega (arith, l, t.place, length-drop i P, length-drop s.at P)

-- what is stored of the element at place m of the word w ends in the word
pub word_inside :
    (rlgr3 : Bool) (kp krp n i m w : ℕ) (e : Element) → m ≤ 57 → i < n → Ok e ≡ elem_of rlgr3 kp krp (n - i) m (num_bits 57 w) →
    (placed_of n i e).1.at ≤ 57
word_inside rlgr3 kp krp n i m w e l h q =
    go e (subst (λ (x : Result Element Refusal). Told rlgr3 kp krp (n - i) m (num_bits 57 w) x) (sym q)
    (elem_told rlgr3 kp krp (n - i) m (num_bits 57 w) (omega arith)))
  where
    k : m ≤ length (num_bits 57 w)
    k = omega (arith, l, length_num_bits 57 w)

    end : (front : List ℕ) (s : State) → Took rlgr3 kp krp (n - i) m (num_bits 57 w) front s → s.at ≤ 57
    end front s t = omega (arith, took_within rlgr3 kp krp (n - i) m (num_bits 57 w) front s k t, length_num_bits 57 w)

    go : (e : Element) → Told rlgr3 kp krp (n - i) m (num_bits 57 w) (Ok e) → (placed_of n i e).1.at ≤ 57
    go (Zeros z s) t = end _ s t
    go (One z v s) t = end _ s t
    go (Two a b s) t = end _ s t

-- so it may be stored
pub word_storable :
    (rlgr3 : Bool) (kp krp n i m w : ℕ) (x : Result Element Refusal) → m ≤ 57 → i < n → x ≡ elem_of rlgr3 kp krp (n - i) m (num_bits 57 w) → Storable n i x
word_storable rlgr3 kp krp n i m w (Err r) l h q = tt
word_storable rlgr3 kp krp n i m w (Ok e) l h q =
    (elem_fine rlgr3 kp krp n i m (num_bits 57 w) h e q, word_inside rlgr3 kp krp n i m w e l h q)

-- the element at place m of the word w, which stands at place `at`: storing it fills the list on
word_next : (rlgr3 : Bool) (B : List Bool) (out : List ℤ) (c : State) (i at m w : ℕ) (e : Element) → got w (at + 57) ≡ num_of 57 0 at (drop at B) →
    m ≤ 57 → c.at ≡ at + m → Filling rlgr3 (length out) B out c i → i < length out → Ok e ≡ elem_of rlgr3 c.kp c.krp (length out - i) m (num_bits 57 w) →
    Quickly rlgr3 B i out (stored_of out i e) (jump (placed_of (length out) i e).0 (onward_of at (placed_of (length out) i e).1))
word_next rlgr3 B out c i at m w e l hm ec f h q = go e (moved (Ok e) q no_err)
  where
    moved : (x : Result Element Refusal) → x ≡ elem_of rlgr3 c.kp c.krp (length out - i) m (num_bits 57 w) → (x ≡ Err Cut → ⊥) →
        later at x ≡ elem_of rlgr3 c.kp c.krp (length out - i) c.at B
    moved x q n =
        let d = (num_there 57 at B w (at + 57) (sym l)).2 in
        let k : m ≤ length (num_bits 57 w) = omega (arith, hm, length_num_bits 57 w) in
        ap (λ (y : Result Element Refusal). later at y) q
        ∙ sym (elem_moved at (num_bits 57 w) (drop (at + 57) B) B d rlgr3 c.kp c.krp (length out - i) m k (λ y. n (q ∙ y)))
        ∙ ap (λ (y : ℕ). elem_of rlgr3 c.kp c.krp (length out - i) y B) (sym ec)

    go : (e : Element) → later at (Ok e) ≡ elem_of rlgr3 c.kp c.krp (length out - i) c.at B →
        Quickly rlgr3 B i out (stored_of out i e) (jump (placed_of (length out) i e).0 (onward_of at (placed_of (length out) i e).1))
    go (Zeros z s) q = filling_next rlgr3 (length out) B out c i f h (Zeros z (onward_of at s)) q
    go (One z v s) q = filling_next rlgr3 (length out) B out c i f h (One z v (onward_of at s)) q
    go (Two a b s) q = filling_next rlgr3 (length out) B out c i f h (Two a b (onward_of at s)) q

-- or it is refused and the list stays
pub word_quick : (rlgr3 : Bool) (B : List Bool) (out : List ℤ) (c : State) (i at m w : ℕ) (x : Result Element Refusal) →
    got w (at + 57) ≡ num_of 57 0 at (drop at B) → m ≤ 57 → c.at ≡ at + m → Filling rlgr3 (length out) B out c i → i < length out →
    x ≡ elem_of rlgr3 c.kp c.krp (length out - i) m (num_bits 57 w) → (new : List ℤ) (r : Option (ℕ × State)) → Kept at i out new x r →
    Quickly rlgr3 B i out new r
word_quick rlgr3 B out c i at m w (Err q) l hm ec f h e new r k = rw (k.0, k.1) refl
word_quick rlgr3 B out c i at m w (Ok x) l hm ec f h e new r k = rw (k.0, k.1) (word_next rlgr3 B out c i at m w x l hm ec f h e)

-- the same for an element that the word begins with, in the forms that the code has
module _ (rlgr3 : Bool) (w : ℕ) (out : List ℤ) (c : State) (i : ℕ) (p : Worded w out c i) (x : Result Element Refusal)
    (q : x ≡ elem_of rlgr3 c.kp c.krp (length out - i) 0 (num_bits 57 w)) where
  pub first_storable : (length out ≤ 4096) × (i < length out) × (c.at ≤ 524280) × Storable (length out) i x
  first_storable = (p.places, p.room, p.place, word_storable rlgr3 c.kp c.krp (length out) i 0 w x (omega arith) p.room q)

  pub first_turns : (new : List ℤ) (r : Option (ℕ × State)) → Kept c.at i out new x r → Turned rlgr3 w c i out new r
  first_turns new r k B word f = word_quick rlgr3 B out c i c.at 0 w x word (omega arith) (omega arith) f p.room q new r k

-- a run's value behind the zeros that a word begins with
pub value_is : (w m kp krp left : ℕ) → m ≡ front_zeros (num_bits 57 w) → m < 57 →
    run_elem kp krp left (num_bits 57 w) (num_of 1 0 m (drop m (num_bits 57 w))) ≡
    run_first kp krp left (num_bits 57 w) (num_of (kp / 8) 0 (m + 1) (drop (m + 1) (num_bits 57 w)))
value_is w m kp krp left z h =
    let d = front_stop (num_bits 57 w) m z (omega (arith, h, length_num_bits 57 w)) in
    run_some kp krp left (num_bits 57 w) _ 1 (m + 1) (bit_here m (num_bits 57 w) true (drop (m + 1) (num_bits 57 w)) d).0 (λ x. absurd (omega arith))

-- ---- full runs taken together

pos_of : (m : ℕ) → (m ≡ 0 → ⊥) → 0 < m
pos_of zero h = absurd (h refl)
pos_of (suc m) h = omega arith

jump_j : {j k : ℕ} {s t : State} → ◌≡◌ {A = ℕ × State} (j, s) (k, t) → j ≡ k
jump_j e = ap (λ (p : ℕ × State). p.0) e

jump_s : {j k : ℕ} {s t : State} → ◌≡◌ {A = ℕ × State} (j, s) (k, t) → s ≡ t
jump_s e = ap (λ (p : ℕ × State). p.1) e

-- the state after a full run, and the place
abbrev after : State → State
after c = state_at (c.at + 1) (raised 4 c.kp) c.krp

abbrev behind : ℕ → ℕ → State → ℕ
behind n i c = min n (i + 2 ^ (c.kp / 8))

module _ (rlgr3 : Bool) (n : ℕ) (B : List Bool) where
  -- what m runs from place i on lead to: the list is filled on, at least one place if there is one
  abbrev Leapt : ℕ → List ℤ → ℕ → ℕ → State → Type 0
  Leapt m out i j t = Filling rlgr3 n B out t j × (i ≤ j) × (0 < m → i < n → i < j)

  leap_fills : (m : ℕ) (out : List ℤ) (c : State) (i : ℕ) (rest : List Bool) → Filling rlgr3 n B out c i → 8 ≤ c.kp →
      drop c.at B ≡ replicate m false ++ rest → (j : ℕ) (t : State) → leap_of m n i c ≡ (j, t) → Leapt m out i j t
  unfolding leap_of
  leap_fills zero out c i rest w h8 d j t p = (rw (← jump_j p, ← jump_s p) w, omega (arith, jump_j p), λ z. absurd (omega arith))
  leap_fills (suc m) out c i rest w h8 d j t p =
      go (λ f g. leap_fills m out (after c) (behind n i c) rest f (omega arith) g j t) (ltb i n) refl p
    where
      go : (Filling rlgr3 n B out (after c) (behind n i c) → drop (c.at + 1) B ≡ replicate m false ++ rest →
          leap_of m n (behind n i c) (after c) ≡ (j, t) → Leapt m out (behind n i c) j t) →
          (b : Bool) → ltb i n ≡ b → (b ⇒ leap_of m n (behind n i c) (after c) ∣ (i, c)) ≡ (j, t) → Leapt (suc m) out i j t
      go ih true e q =
          let h : i < n = ltb-true i n e in
          let x = Zeros (2 ^ (c.kp / 8)) (after c) in
          let f : elem_of rlgr3 c.kp c.krp (n - i) c.at B ≡ Ok x =
          elem_full c.kp c.krp (n - i) c.at B (replicate m false ++ rest) rlgr3 h8 d in
          let a : Filling rlgr3 n B out (after c) (behind n i c) × (i < behind n i c) = filling_next rlgr3 n B out c i w h x (sym f) in
          let r = ih a.0 (past c.at B (false ∷ []) (replicate m false ++ rest) d) q in
          (r.0, omega (arith, a.1, r.1), λ z l. omega (arith, a.1, r.1))
      go ih false e q =
          let h : n ≤ i = ltb-false i n e in
          (rw (← jump_j q, ← jump_s q) w, omega (arith, jump_j q), λ z l. absurd (omega arith))

-- where full runs lead: still in run mode, and all m are taken unless the list is full
pub leap_state : (m n i : ℕ) (c : State) (j : ℕ) (t : State) → leap_of m n i c ≡ (j, t) → 8 ≤ c.kp → c.kp ≤ 80 → c.krp ≤ 80 →
    (8 ≤ t.kp) × (t.kp ≤ 80) × (t.krp ≤ 80) × (j < n → t.at ≡ c.at + m)
unfolding leap_of
leap_state zero n i c j t p h l k =
    rw (← jump_s p) (h, l, k, λ x. omega arith)
leap_state (suc m) n i c j t p h l k = go (ltb i n) refl p (λ q. leap_state m n (behind n i c) (after c) j t q (omega arith) (omega arith) k)
  where
    go : (b : Bool) → ltb i n ≡ b → (b ⇒ leap_of m n (behind n i c) (after c) ∣ (i, c)) ≡ (j, t) →
        (leap_of m n (behind n i c) (after c) ≡ (j, t) → (8 ≤ t.kp) × (t.kp ≤ 80) × (t.krp ≤ 80) × (j < n → t.at ≡ c.at + 1 + m)) →
        (8 ≤ t.kp) × (t.kp ≤ 80) × (t.krp ≤ 80) × (j < n → t.at ≡ c.at + suc m)
    go true e q ih = let r = ih q in (r.0, r.1, r.2, λ x. omega (arith, r.3 x))
    go false e q ih =
        let g : n ≤ i = ltb-false i n e in
        let s = jump_s q in
        let d = jump_j q in
        rw (← s) (h, l, k, λ x. absurd (omega (arith, d)))

-- the loop over full runs, in its own forms
leap_more : (m n i at kp krp j q : ℕ) → 0 < m → i < n → j ≡ min n (i + 2 ^ (kp / 8)) → q ≡ raised 4 kp →
    leap_of m n i (state_at at kp krp) ≡ leap_of (m - 1) n j (state_at (at + 1) q krp)
unfolding leap_of
leap_more zero n i at kp krp j q p h ej eq = absurd (omega arith)
leap_more (suc m) n i at kp krp j q p h ej eq = let e : suc m - 1 ≡ m = omega arith in rw (lt-ltb i n h, e, ej, eq)

leap_end : (m n i : ℕ) (c : State) → (0 < m → n ≤ i) → leap_of m n i c ≡ (i, c)
unfolding leap_of
leap_end zero n i c h = refl
leap_end (suc m) n i c h = rw (le-ltb i n (h (omega arith)))

-- k of m runs are taken: the place is j and kp is kp then
pub record Leaping (n i m at krp first kp j k : ℕ) : Type 0 where
  pub count : k ≤ m
  pub room : j ≤ n
  pub kps : kp ≤ 80
  pub same : leap_of (m - k) n j (state_at (at + k) kp krp) ≡ leap_of m n i (state_at at first krp)

module _ (n i m at krp first kp j k : ℕ) (w : Leaping n i m at krp first kp j k) where
  pub leap_again : (z j' q : ℕ) → k < m → j < n → z ≡ 2 ^ (kp / 8) → j' ≡ min n (j + z) → q ≡ raised 4 kp → Leaping n i m at krp first q j' (k + 1)
  leap_again z j' q h l ez ej eq =
      let a : m - k - 1 ≡ m - (k + 1) = omega arith in
      let b : at + k + 1 ≡ at + (k + 1) = omega arith in
      let s = leap_more (m - k) n j (at + k) kp krp j' q (omega arith) l (ej ∙ ap (λ (x : ℕ). min n (j + x)) ez) eq in
      record {
        count = omega arith;
        room = omega (arith, ej);
        kps = omega (arith, eq, w.kps);
        same = rw (← a, ← b) (sym s ∙ w.same);
      }

  pub leap_done : (k < m → n ≤ j) → ◌≡◌ {A = ℕ × State} (j, state_at (at + k) kp krp) (leap_of m n i (state_at at first krp))
  leap_done h = sym (leap_end (m - k) n j (state_at (at + k) kp krp) (λ p. h (omega arith))) ∙ w.same

-- ---- a turn in run mode

-- w is the word at c, m the zeros that it begins with, and the runs lead to j and t
pub record Led (B : List Bool) (c : State) (out : List ℤ) (i w m j : ℕ) (t : State) : Type 0 where
  pub word : got w (c.at + 57) ≡ num_of 57 0 c.at (drop c.at B)
  pub zeros : m ≡ front_zeros (num_bits 57 w)
  pub runs : leap_of m (length out) i c ≡ (j, t)
  pub worded : Worded w out c i
  pub high : 8 ≤ c.kp

-- in the forms that the code has
pub led_by : (B : List Bool) (c : State) (out : List ℤ) (i w m : ℕ) (p : ℕ × State) → Worded w out c i × (8 ≤ c.kp) →
    m ≡ front_zeros (num_bits 57 w) → p ≡ leap_of m (length out) i c → got w (c.at + 57) ≡ num_of 57 0 c.at (drop c.at B) →
    Led B c out i w m p.0 p.1
led_by B c out i w m p q z e word = record { word = word; zeros = z; runs = sym e; worded = q.0; high = q.1 }

-- filled on in whichever mode it is being filled
abbrev Either : List Bool → State → ℕ → List ℤ → List ℤ → Option (ℕ × State) → Type 0
Either B c i out new r = (rlgr3 : Bool) → Filling rlgr3 (length out) B out c i → Quickly rlgr3 B i out new r

module _ (B : List Bool) (c : State) (out : List ℤ) (i w m j : ℕ) (t : State) (l : Led B c out i w m j t) where
  led_state : (8 ≤ t.kp) × (t.kp ≤ 80) × (t.krp ≤ 80) × (j < length out → t.at ≡ c.at + m)
  led_state = leap_state m (length out) i c j t l.runs l.high l.worded.kps l.worded.krs

  led_fills : (rlgr3 : Bool) → Filling rlgr3 (length out) B out c i → Leapt rlgr3 (length out) B m out i j t
  led_fills rlgr3 f =
      let z = front_zeros (num_bits 57 w) in
      let rest = drop z (num_bits 57 w) ++ drop (c.at + 57) B in
      let d : drop c.at B ≡ replicate m false ++ rest = word_zeros w c.at B l.word ∙ ap (λ (x : ℕ). replicate x false ++ rest) (sym l.zeros) in
      leap_fills rlgr3 (length out) B m out c i rest f l.high d j t l.runs

  led_none : m ≡ 0 → i ≡ j
  unfolding leap_of
  led_none z = jump_j (sym (ap (λ (x : ℕ). leap_of x (length out) i c) z) ∙ l.runs)

  -- the runs alone, where there are any
  pub led_some : 0 < m → (new : List ℤ) → new ≡ out → Either B c i out new (jump j t)
  led_some p new e rlgr3 f = let r = led_fills rlgr3 f in rw e (r.0, r.2 p l.worded.room)

  -- the list is full
  pub led_full : length out ≤ j → Either B c i out out (jump j t)
  led_full h = led_some (pos_of m (λ z. absurd (omega (arith, led_none z, l.worded.room)))) out refl

  -- the value behind them
  module _ (hm : m < 57) (new : List ℤ) (r : Option (ℕ × State)) (v : Kept c.at j out new (value_of w m t (length out - j)) r) where
    pub led_value : j < length out → (k : ℕ) (u : State) → r ≡ jump k u → Either B c i out new (jump k u)
    led_value h k u g rlgr3 f =
        let a = led_fills rlgr3 f in
        let s = led_state in
        let q : value_of w m t (length out - j) ≡ elem_of rlgr3 t.kp t.krp (length out - j) m (num_bits 57 w) =
        sym (elem_high rlgr3 t.kp t.krp (length out - j) m (num_bits 57 w) s.0) in
        let y = word_quick rlgr3 B out t j c.at m w _ l.word (omega arith) (s.3 h) a.0 h q new r v in
        let z : Quickly rlgr3 B j out new (jump k u) = subst (λ (x : Option (ℕ × State)). Quickly rlgr3 B j out new x) g y in
        (z.0, omega (arith, z.1, a.1))

    pub led_not : r ≡ None → new ≡ out
    led_not g = stays (value_of w m t (length out - j)) v
      where
        stays : (x : Result Element Refusal) → Kept c.at j out new x r → new ≡ out
        stays (Err q) k = k.1
        stays (Ok e) k = let z : ◌≡◌ {A = ℕ} 0 1 = cc k.0 in absurd (omega arith)

-- ---- a turn by a word, for the loop

-- the word that was looked at
pub worded_of : (rlgr3 : Bool) (s : List ℕ) (out : List ℤ) (c : State) (i w : ℕ) → Open rlgr3 s out c i → c.at / 8 + 8 ≤ length s →
    got w (c.at + 57) ≡ num_of 57 0 c.at (drop c.at (bits_of s)) → Worded w out c i
worded_of rlgr3 s out c i w o h l = record {
  small = word_small w c.at (bits_of s) l;
  places = o.1;
  room = o.2;
  kps = o.3.kps;
  krs = o.3.krs;
  place = omega (arith, o.0);
}

module _ (rlgr3 : Bool) (B : List Bool) (out : List ℤ) (c : State) (i : ℕ) (n : ℕ) (new : List ℤ) (r : Option (ℕ × State)) (w : Filling rlgr3 n B out c i)
    (q : Quickly rlgr3 B i out new r) where
  pub quick_next : (j : ℕ) (s : State) → r ≡ jump j s → Filling rlgr3 n B new s j × (i < j)
  quick_next j s g =
      let k : Quickly rlgr3 B i out new (jump j s) = rw g at q in
      let e : n ≡ length out = sym w.clear.len in
      rw e k

  pub quick_same : r ≡ None → Filling rlgr3 n B new c i
  quick_same g = let k : Quickly rlgr3 B i out new None = rw g at q in rw k w

-- the list's length stands for n
pub filling_long : (rlgr3 : Bool) (n : ℕ) (B : List Bool) (out : List ℤ) (c : State) (i : ℕ) → Filling rlgr3 n B out c i → Filling rlgr3 (length out) B out c i
filling_long rlgr3 n B out c i w = rw w.clear.len w

-- what turns by words led to
module _ (rlgr3 : Bool) (B : List Bool) (n i : ℕ) (out new : List ℤ) (p : ℕ × State) (e : length out ≡ n) (q : Rushed rlgr3 B (length out) i new p) where
  pub rush_on : Filling rlgr3 n B new p.1 p.0 × (i ≤ p.0)
  rush_on = rw (← e) q

  pub rush_full : n ≤ p.0 → Fills (read_list rlgr3 n B) new (Ok p.1.at)
  rush_full h = filling_end rlgr3 n B new p.1 p.0 h rush_on.0

  -- stuck at a place that is left
  pub rush_stuck : (j : ℕ) (t : State) → p ≡ (j, t) → j < n → Filling rlgr3 n B new t j × (i ≤ j) × (j < n)
  rush_stuck j t g h =
      let k : Filling rlgr3 n B new t j × (i ≤ j) = subst (λ (x : ℕ × State). Filling rlgr3 n B new x.1 x.0 × (i ≤ x.0)) g rush_on in
      (k.0, k.1, h)
