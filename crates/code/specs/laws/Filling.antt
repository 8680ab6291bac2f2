-- A list that is being filled: what the loop keeps.
use Rattle.std.specs.Prelude.{Result, Ok, Err}
use Prim.Native.Nat.{ℕ, zero, suc, ◌+◌, ◌-◌, ◌≤◌, ◌<◌, min}
use Rattle.std.specs.Prelude.{◌≡◌, Bool, true, false, List, [], ◌∷◌, ◌++◌, map, ℤ, pos, ltb, length, take, drop, set}
use Rattle.std.proofs.Math.Path.{refl, sym, ap}
use Rattle.std.proofs.Common.{◌∙◌, subst, append_assoc, add-one, ltb-true, ltb-false, length-append, length-set, take-add, drop-drop, take-suc-set, drop-set-lt}
use Rattle.std.proofs.Common.{take_all}
use native.Mathlib.Omega.{arith}
use Rattle.std.proofs.Math.ListN.{replicate}
use Rattle.std.proofs.lemmas.List.{length-replicate, get_or_at}
use Rattle.whole.specs.Row.{◌⇒◌∣◌}
use Rattle.code.specs.Code.{InRange}
use Rattle.code.specs.ReadList.{state_at, elem_of, whole, bad, step, walk, read_list}
use Rattle.code.specs.laws.Taken.{Told, Took, elem_told}
use Rattle.code.specs.declared.element.State.{State}
use Rattle.wire.specs.declared.Refusal.{Refusal}
use Rattle.code.specs.declared.element.Element.{Element}
use Rattle.code.specs.declared.element.Element.TheVariants.{Zeros, One, Two}
use Rattle.code.specs.Fold.{fold_z, unfold_z}
use Rattle.code.specs.laws.Fold.{fold_unfold, map_unfold}
use Rattle.code.specs.Fill.{Fills, Fine, placed_of, stored_of, Clear, Filling}

-- ---- lists of zeros

take_rep : (m n : ℕ) (x : ℤ) → m ≤ n → take m (replicate n x) ≡ replicate m x
take_rep zero n x h = refl
take_rep (suc m) zero x h = absurd (omega arith)
take_rep (suc m) (suc n) x h = ap (λ (l : List ℤ). x ∷ l) (take_rep m n x (omega arith))

drop_rep : (m n : ℕ) (x : ℤ) → m ≤ n → drop m (replicate n x) ≡ replicate (n - m) x
drop_rep zero n x h = let e : n ≡ n - 0 = omega arith in ap (λ (k : ℕ). replicate k x) e
drop_rep (suc m) zero x h = absurd (omega arith)
drop_rep (suc m) (suc n) x h = let e : n - m ≡ suc n - suc m = omega arith in drop_rep m n x (omega arith) ∙ ap (λ (k : ℕ). replicate k x) e

map_append : (a b : List ℤ) → map fold_z (a ++ b) ≡ map fold_z a ++ map fold_z b
map_append [] b = refl
map_append (x ∷ a) b = ap (λ (l : List ℕ). fold_z x ∷ l) (map_append a b)

map_rep : (m : ℕ) → map fold_z (replicate m (pos 0)) ≡ replicate m 0
unfolding fold_z
map_rep zero = refl
map_rep (suc m) = ap (λ (l : List ℕ). 0 ∷ l) (map_rep m)

-- ---- a list that grew from place i to place j by the folded values front; zeros stand from each place on

pub record Grew (n : ℕ) (out : List ℤ) (i : ℕ) (new : List ℤ) (j : ℕ) (front : List ℕ) : Type 0 where
  pub clear : Clear n new j
  pub next : j ≡ i + length front
  pub vals : map fold_z (take j new) ≡ map fold_z (take i out) ++ front

grew_zeros : (n : ℕ) (out : List ℤ) (i m : ℕ) → Clear n out i → i + m ≤ n → Grew n out i out (i + m) (replicate m 0)
grew_zeros n out i m c h =
    let z : drop i out ≡ replicate (n - i) (pos 0) = c.zeros in
    let t : take (i + m) out ≡ take i out ++ replicate m (pos 0) =
    take-add i m out ∙ ap (λ (l : List ℤ). take i out ++ take m l) z
    ∙ ap (λ (l : List ℤ). take i out ++ l) (take_rep m (n - i) (pos 0) (omega arith)) in
    let k : n - i - m ≡ n - (i + m) = omega arith in
    record {
      clear = record {
        room = h;
        len = c.len;
        zeros = sym (drop-drop m i out) ∙ ap (λ (l : List ℤ). drop m l) z ∙ drop_rep m (n - i) (pos 0) (omega arith) ∙ ap (λ (x : ℕ). replicate x (pos 0)) k;
      };
      next = omega (arith, length-replicate {A = ℕ} m 0);
      vals = ap (λ (l : List ℤ). map fold_z l) t ∙ map_append (take i out) (replicate m (pos 0)) ∙ ap (λ (l : List ℕ). map fold_z (take i out) ++ l)
          (map_rep m);
    }

grew_value : (n : ℕ) (out : List ℤ) (i v : ℕ) → Clear n out i → i < n → Grew n out i (set out i (unfold_z v)) (i + 1) (v ∷ [])
grew_value n out i v c h =
    let t : take (i + 1) (set out i (unfold_z v)) ≡ take i out ++ (unfold_z v ∷ []) = rw (add-one i) (take-suc-set out i (unfold_z v) (omega (arith, c.len))) in
    record {
      clear = record {
        room = omega arith;
        len = length-set out i (unfold_z v) ∙ c.len;
        zeros = drop-set-lt (i + 1) out i (unfold_z v) (omega arith) ∙ (grew_zeros n out i 1 c (omega arith)).clear.zeros;
      };
      next = refl;
      vals = ap (λ (l : List ℤ). map fold_z l) t ∙ map_append (take i out) (unfold_z v ∷ []) ∙ ap (λ (x : ℕ). map fold_z (take i out) ++ (x ∷ []))
          (fold_unfold v);
    }

grew_more :
    (n : ℕ) (a : List ℤ) (i : ℕ) (b : List ℤ) (j : ℕ) (c : List ℤ) (k : ℕ) (f g : List ℕ) → Grew n a i b j f → Grew n b j c k g → Grew n a i c k (f ++ g)
grew_more n a i b j c k f g p q = record {
  clear = q.clear;
  next = omega (arith, p.next, q.next, length-append f g);
  vals = q.vals ∙ ap (λ (l : List ℕ). l ++ g) p.vals ∙ append_assoc (map fold_z (take i a)) f g;
}

-- ---- what storing an element does

placed_zeros : (n : ℕ) (out : List ℤ) (i z : ℕ) → Clear n out i → Grew n out i out (min n (i + z)) (replicate (min z (n - i)) 0)
placed_zeros n out i z c =
    let h : i + min z (n - i) ≡ min n (i + z) = omega (arith, c.room) in
    rw (← h) (grew_zeros n out i (min z (n - i)) c (omega (arith, c.room)))

placed_one : (n : ℕ) (out : List ℤ) (i z v : ℕ) → Clear n out i → i + z < n → Grew n out i (set out (i + z) (unfold_z v)) (i + z + 1)
    (replicate z 0 ++ (v ∷ []))
placed_one n out i z v c h =
    let g = grew_zeros n out i z c (omega arith) in
    grew_more n out i out (i + z) (set out (i + z) (unfold_z v)) (i + z + 1) (replicate z 0) (v ∷ []) g (grew_value n out (i + z) v g.clear h)

placed_two :
    (n : ℕ) (out : List ℤ) (i a b : ℕ) → Clear n out i → i < n →
    Grew n out i (ltb (i + 1) n ⇒ set (set out i (unfold_z a)) (i + 1) (unfold_z b) ∣ set out i (unfold_z a)) (min n (i + 2)) (take (n - i) (a ∷ b ∷ []))
unfolding ◌⇒◌∣◌
placed_two n out i a b c h = go (ltb (i + 1) n) refl
  where
    g : Grew n out i (set out i (unfold_z a)) (i + 1) (a ∷ [])
    g = grew_value n out i a c h

    go :
        (t : Bool) → ltb (i + 1) n ≡ t →
        Grew n out i (t ⇒ set (set out i (unfold_z a)) (i + 1) (unfold_z b) ∣ set out i (unfold_z a)) (min n (i + 2)) (take (n - i) (a ∷ b ∷ []))
    go true e =
        let l : i + 1 < n = ltb-true (i + 1) n e in
        let j : i + 1 + 1 ≡ min n (i + 2) = omega arith in
        let t : take (n - i) (a ∷ b ∷ []) ≡ a ∷ b ∷ [] = take_all (n - i) (a ∷ b ∷ []) (omega arith) in
        rw (t, ← j)
        (grew_more n out i (set out i (unfold_z a)) (i + 1) (set (set out i (unfold_z a)) (i + 1) (unfold_z b)) (i + 1 + 1) (a ∷ []) (b ∷ []) g
        (grew_value n (set out i (unfold_z a)) (i + 1) b g.clear l))
    go false e =
        let l : n ≤ i + 1 = ltb-false (i + 1) n e in
        let k : n - i ≡ 1 = omega arith in
        let j : i + 1 ≡ min n (i + 2) = omega arith in
        rw (k, ← j) g

pair_first : (m a b : ℕ) → 0 < m → InRange (take m (a ∷ b ∷ [])) → a ≤ 65534
pair_first zero a b h r = absurd (omega arith)
pair_first (suc m) a b h r = r 0

pair_second : (m a b : ℕ) → 1 < m → InRange (take m (a ∷ b ∷ [])) → b ≤ 65534
pair_second zero a b h r = absurd (omega arith)
pair_second (suc zero) a b h r = absurd (omega arith)
pair_second (suc (suc m)) a b h r = r 1

-- an element fits where it is read
pub elem_fine :
    (rlgr3 : Bool) (kp krp n i at : ℕ) (B : List Bool) → i < n → (e : Element) → Ok e ≡ elem_of rlgr3 kp krp (n - i) at B → Fine n i e
elem_fine rlgr3 kp krp n i at B h e q =
    go e (subst (λ (x : Result Element Refusal). Told rlgr3 kp krp (n - i) at B x) (sym q) (elem_told rlgr3 kp krp (n - i) at B (omega arith)))
  where
    go : (e : Element) → Told rlgr3 kp krp (n - i) at B (Ok e) → Fine n i e
    go (Zeros z s) t = tt
    go (One z v s) t = (
      omega (arith, t.fits, length-append (replicate z 0) (v ∷ []), length-replicate {A = ℕ} z 0),
      rw (get_or_at (replicate z 0) v [] 0 z (length-replicate z 0)) at (t.range z),
    )
    go (Two a b s) t = (pair_first (n - i) a b (omega arith) t.range, λ l. pair_second (n - i) a b (omega arith) t.range)

-- ---- the loop's invariant

module _ (rlgr3 : Bool) (n : ℕ) (B : List Bool) where
  pub filling_start : (out : List ℤ) → length out ≡ n → out ≡ replicate (length out) (pos 0) → Filling rlgr3 n B out (state_at 0 8 8) 0
  unfolding read_list
  filling_start out l z =
      let k : n - 0 ≡ n = omega arith in
      record {
        f = n;
        clear = record { room = omega arith; len = l; zeros = z ∙ ap (λ (x : ℕ). replicate x (pos 0)) (l ∙ sym k) };
        fuel = omega arith;
        kps = omega arith;
        krs = omega arith;
        same = rw k;
      }

  walk_none : (f kp krp at : ℕ) (done : List ℕ) → walk f rlgr3 kp krp at 0 done B ≡ whole done at
  unfolding walk
  walk_none zero kp krp at done = refl
  walk_none (suc f) kp krp at done = refl

  -- one turn of the walk, in the loop's form
  walk_turn :
      (f : ℕ) (kp krp at left : ℕ) (done : List ℕ) → 0 < left → left ≤ f →
      (g : ℕ) × (f ≡ suc g)
      × (walk f rlgr3 kp krp at left done B ≡ step (elem_of rlgr3 kp krp left at B) left done (λ s l d. walk g rlgr3 s.kp s.krp s.at l d B))
  unfolding walk
  walk_turn zero kp krp at left done p h = absurd (omega arith)
  walk_turn (suc g) kp krp at zero done p h = absurd (omega arith)
  walk_turn (suc g) kp krp at (suc left) done p h = (g, refl, refl)

  module _ (out : List ℤ) (c : State) (i : ℕ) (w : Filling rlgr3 n B out c i) (h : i < n) where
    advance :
        (new : List ℤ) (s : State) (j g : ℕ) (front : List ℕ) → w.f ≡ suc g → Took rlgr3 c.kp c.krp (n - i) c.at B front s →
        Grew n out i new j front → walk g rlgr3 s.kp s.krp s.at (n - j) (map fold_z (take i out) ++ front) B ≡ read_list rlgr3 n B →
        Filling rlgr3 n B new s j × (i < j)
    advance new s j g front ef t r e = (
      record
          { f = g; clear = r.clear; fuel = omega (arith, w.fuel, r.next, t.some, ef); kps = t.kps w.kps; krs = t.krs w.krs; same = rw r.vals e },
      omega (arith, r.next, t.some),
    )

    -- one step of the walk from what is read there
    turned :
        (x : Result Element Refusal) → x ≡ elem_of rlgr3 c.kp c.krp (n - i) c.at B →
        (g : ℕ) × (w.f ≡ suc g) × (step x (n - i) (map fold_z (take i out)) (λ s l d. walk g rlgr3 s.kp s.krp s.at l d B) ≡ read_list rlgr3 n B)
    turned x q =
        let t = walk_turn w.f c.kp c.krp c.at (n - i) (map fold_z (take i out)) (omega arith) w.fuel in (
          t.0,
          t.1,
          ap (λ (y : Result Element Refusal). step y (n - i) (map fold_z (take i out)) (λ s l d. walk t.0 rlgr3 s.kp s.krp s.at l d B)) q
              ∙ sym t.2 ∙ w.same,
        )

    pub filling_next :
        (e : Element) → Ok e ≡ elem_of rlgr3 c.kp c.krp (n - i) c.at B →
        Filling rlgr3 n B (stored_of out i e) (placed_of n i e).1 (placed_of n i e).0 × (i < (placed_of n i e).0)
    filling_next e q =
        let t = turned (Ok e) q in
        go e (subst (λ (x : Result Element Refusal). Told rlgr3 c.kp c.krp (n - i) c.at B x) (sym q)
        (elem_told rlgr3 c.kp c.krp (n - i) c.at B (omega arith))) t.0 t.1 t.2
      where
        go :
            (e : Element) → Told rlgr3 c.kp c.krp (n - i) c.at B (Ok e) → (g : ℕ) → w.f ≡ suc g →
            step (Ok e) (n - i) (map fold_z (take i out)) (λ s l d. walk g rlgr3 s.kp s.krp s.at l d B) ≡ read_list rlgr3 n B →
            Filling rlgr3 n B (stored_of out i e) (placed_of n i e).1 (placed_of n i e).0 × (i < (placed_of n i e).0)
        go (Zeros z s) t g ef k =
            let l : n - i - z ≡ n - min n (i + z) = omega arith in
            advance out s (min n (i + z)) g (replicate (min z (n - i)) 0) ef t (placed_zeros n out i z w.clear) (rw l at k)
        go (One z v s) t g ef k =
            let m : i + z < n = omega (arith, t.fits, length-append (replicate z 0) (v ∷ []), length-replicate {A = ℕ} z 0) in
            let l : n - i - (z + 1) ≡ n - (i + z + 1) = omega arith in
            advance (set out (i + z) (unfold_z v)) s (i + z + 1) g (replicate z 0 ++ (v ∷ [])) ef t (placed_one n out i z v w.clear m) (rw l at k)
        go (Two a b s) t g ef k =
            let l : n - i - 2 ≡ n - min n (i + 2) = omega arith in
            rw w.clear.len
            (advance (ltb (i + 1) n ⇒ set (set out i (unfold_z a)) (i + 1) (unfold_z b) ∣ set out i (unfold_z a)) s (min n (i + 2)) g
            (take (n - i) (a ∷ b ∷ [])) ef t (placed_two n out i a b w.clear h) (rw l at k))

    pub filling_bad : (r : Refusal) → Err r ≡ elem_of rlgr3 c.kp c.krp (n - i) c.at B → read_list rlgr3 n B ≡ bad r
    filling_bad r q = sym (turned (Err r) q).2

    pub filling_fine : (e : Element) → Ok e ≡ elem_of rlgr3 c.kp c.krp (n - i) c.at B → Fine n i e
    filling_fine e q = elem_fine rlgr3 c.kp c.krp n i c.at B h e q

  pub filling_end : (out : List ℤ) (c : State) (i : ℕ) → n ≤ i → Filling rlgr3 n B out c i → Fills (read_list rlgr3 n B) out (Ok c.at)
  filling_end out c i h w =
      let z : n - i ≡ 0 = omega arith in
      let e : walk w.f rlgr3 c.kp c.krp c.at 0 (map fold_z (take i out)) B ≡ read_list rlgr3 n B = rw z at w.same in
      let t : take i out ≡ out = take_all i out (omega (arith, w.clear.len)) in
      rw (sym e ∙ walk_none w.f c.kp c.krp c.at (map fold_z (take i out)))
      (sym (ap (λ (l : List ℕ). map unfold_z l) (ap (λ (l : List ℤ). map fold_z l) t) ∙ map_unfold out), refl)

  -- in the code's forms
  module _ (out new : List ℤ) (c : State) (i : ℕ) (w : Filling rlgr3 n B out c i) (h : i < n) where
    pub turn_next :
        (e : Element) (p : ℕ × State) → Ok e ≡ elem_of rlgr3 c.kp c.krp (n - i) c.at B → p ≡ placed_of (length out) i e → new ≡ stored_of out i e →
        Filling rlgr3 n B new p.1 p.0 × (i < p.0)
    turn_next e p q ep en = rw (ep ∙ ap (λ (m : ℕ). placed_of m i e) w.clear.len, en) (filling_next out c i w h e q)

    pub turn_bad : (k : Refusal) → Err k ≡ elem_of rlgr3 c.kp c.krp (n - i) c.at B → Fills (read_list rlgr3 n B) new (Err k)
    turn_bad k q = rw (filling_bad out c i w h k q) refl
