-- 4,097 places in a list of 4,096 and a number beside it: one law for each way of storing; while they are filled the component reader's own record holds
-- (`Filling` of the crate code) at 4,097 places; and one law for each answer.
use Prim.Native.Nat.{ℕ, zero, suc, ◌+◌, ◌*◌, ◌-◌, ◌≤◌, ◌<◌, min}
use Rattle.std.specs.Prelude.{◌≡◌, refl, Bool, true, false, eqb, ℤ, pos, length, take, drop, get_or, replicate, Result, Ok, Err}
use Rattle.std.proofs.Math.Path.{sym, ap}
use Rattle.std.proofs.Common.{subst, ◌∙◌, length-append, take_all, take_at}
use mathlib.Core.List.{List, [], ◌∷◌, ◌++◌, map}
use native.Mathlib.Omega.{arith}
use borrow.Author.Tests.{lt-ltb, le-ltb, eq-eqb, ne_eqb}
use Rattle.std.proofs.Math.ListN.{set}
use Rattle.std.proofs.lemmas.List.{length-map, set_at, get_or_at}
use Rattle.whole.specs.Row.{◌⇒◌∣◌}
use Rattle.whole.specs.laws.Row.{passes, fails}
use Rattle.bits.specs.Bits.{bits_of}
use Rattle.bits.specs.laws.Bit.{length_bits_of}
use Rattle.code.specs.Fold.{fold_z, unfold_z}
use Rattle.code.specs.laws.Fold.{fold_unfold, map_unfold}
use Rattle.code.specs.Code.{code_of}
use Rattle.code.specs.ReadList.{state_at, Walked, whole, bad, elem_of, walk, read_list}
use Rattle.code.specs.Read.{clean}
use Rattle.code.specs.Fill.{Filling}
use Rattle.code.specs.laws.Filling.{filling_start, filling_next, filling_bad}
use Rattle.code.specs.laws.List.{taken}
use Rattle.code.specs.declared.element.State.{State}
use Rattle.wire.specs.declared.Refusal.{Refusal}
use Rattle.code.specs.declared.element.Element.{Element}
use Rattle.code.specs.declared.element.Element.TheVariants.{Zeros, One, Two}
use Rattle.tidy_code.specs.Sent.{means, unclear, longer_meant, is_meant, list_meant, Answers}
use Rattle.tidy_code.specs.Longer.{with_last, PlacedAs, FilledAs}

-- ---- a value stored

set_first : (out : List ℤ) (x v : ℤ) (i : ℕ) → i < length out → set (out ++ (x ∷ [])) i v ≡ set out i v ++ (x ∷ [])
set_first [] x v i h = absurd (omega arith)
set_first (y ∷ out) x v zero h = refl
set_first (y ∷ out) x v (suc i) h = ap (λ (l : List ℤ). y ∷ l) (set_first out x v i (omega arith))

pub store_in :
    (out new : List ℤ) (last i v : ℕ) → i < length out → new ≡ set out i (unfold_z v) → with_last new last ≡ set (with_last out last) i (unfold_z v)
store_in out new last i v h e = ap (λ (l : List ℤ). with_last l last) e ∙ sym (set_first out (unfold_z last) (unfold_z v) i h)

pub store_last : (out : List ℤ) (last i v : ℕ) → length out ≡ i → with_last out v ≡ set (with_last out last) i (unfold_z v)
store_last out last i v h = sym (set_at out (unfold_z last) [] (unfold_z v) i h)

pub all_long : (out : List ℤ) (last : ℕ) → length out ≡ 4096 → length (with_last out last) ≡ 4097
all_long out last h = length-append out (unfold_z last ∷ []) ∙ omega (arith, h)

-- ---- an element stored: one law for each way out

module _ (all new : List ℤ) (i : ℕ) (e : Element) where
  pub placed_zeros : (z : ℕ) (t : State) (j l : ℕ) → e ≡ Zeros z t → j ≡ min 4097 (i + z) → with_last new l ≡ all → PlacedAs all i e new (j, t, l)
  placed_zeros z t j l h p w = rw h (record { next = p; state = refl; stored = w })

  pub placed_one : (z v : ℕ) (t : State) (l : ℕ) → e ≡ One z v t → with_last new l ≡ set all (i + z) (unfold_z v) → PlacedAs all i e new (i + z + 1, t, l)
  placed_one z v t l h w = rw h (record { next = refl; state = refl; stored = w })

  module _ (a b : ℕ) (t : State) (h : e ≡ Two a b t) (n : length all ≡ 4097) where
    pub placed_two :
        (mid : List ℤ) (k l : ℕ) → i + 1 < 4097 → with_last mid k ≡ set all i (unfold_z a) → with_last new l ≡ set (with_last mid k) (i + 1) (unfold_z b) →
        PlacedAs all i e new (i + 2, t, l)
    unfolding ◌⇒◌∣◌
    placed_two mid k l s p w =
        rw h (record { next = omega arith; state = refl; stored = rw (n, lt-ltb (i + 1) 4097 s) (w ∙ ap (λ (o : List ℤ). set o (i + 1) (unfold_z b)) p) })

    pub placed_lone : (l : ℕ) → 4097 ≤ i + 1 → with_last new l ≡ set all i (unfold_z a) → PlacedAs all i e new (4097, t, l)
    unfolding ◌⇒◌∣◌
    placed_lone l s w = rw h (record { next = omega arith; state = refl; stored = rw (n, le-ltb (i + 1) 4097 s) w })

-- ---- the loop

fold_last : (out : List ℤ) (last : ℕ) → map fold_z (with_last out last) ≡ map fold_z out ++ (last ∷ [])
fold_last [] last = ap (λ (x : ℕ). x ∷ []) (fold_unfold last)
fold_last (y ∷ out) last = ap (λ (l : List ℕ). fold_z y ∷ l) (fold_last out last)

zeros_last : (n : ℕ) → with_last (replicate n (pos 0)) 0 ≡ replicate (suc n) (pos 0)
unfolding unfold_z
zeros_last zero = refl
zeros_last (suc n) = ap (λ (l : List ℤ). pos 0 ∷ l) (zeros_last n)

walk_none : (rlgr3 : Bool) (B : List Bool) (f kp krp at : ℕ) (done : List ℕ) → walk f rlgr3 kp krp at 0 done B ≡ whole done at
unfolding walk
walk_none rlgr3 B zero kp krp at done = refl
walk_none rlgr3 B (suc f) kp krp at done = refl

module _ (rlgr3 : Bool) (B : List Bool) where
  pub longer_start : (out : List ℤ) → length out ≡ 4096 → out ≡ replicate 4096 (pos 0) → Filling rlgr3 4097 B (with_last out 0) (state_at 0 8 8) 0
  longer_start out l z =
      let n = all_long out 0 l in
      filling_start rlgr3 4097 B (with_last out 0) n
      (ap (λ (o : List ℤ). with_last o 0) z ∙ zeros_last 4096 ∙ ap (λ (k : ℕ). replicate k (pos 0)) (sym n))

  module _ (out : List ℤ) (last : ℕ) (c : State) (i : ℕ) (w : Filling rlgr3 4097 B (with_last out last) c i) where
    pub longer_length : length out ≡ 4096
    longer_length = omega (arith, w.clear.len, length-append out (unfold_z last ∷ []))

    pub longer_end : 4097 ≤ i → read_list rlgr3 4097 B ≡ whole (map fold_z out ++ (last ∷ [])) c.at
    longer_end h =
        let z : 4097 - i ≡ 0 = omega arith in
        let e : walk w.f rlgr3 c.kp c.krp c.at 0 (map fold_z (take i (with_last out last))) B ≡ read_list rlgr3 4097 B = rw z at w.same in
        let t : take i (with_last out last) ≡ with_last out last = take_all i (with_last out last) (omega (arith, w.clear.len)) in
        sym e ∙ walk_none rlgr3 B w.f c.kp c.krp c.at (map fold_z (take i (with_last out last)))
        ∙ ap (λ (x : List ℕ). whole x c.at) (ap (map fold_z) t ∙ fold_last out last)

    module _ (h : i < 4097) where
      pub longer_next :
          (e : Element) → Ok e ≡ elem_of rlgr3 c.kp c.krp (4097 - i) c.at B → (new : List ℤ) (r : ℕ × State × ℕ) →
          PlacedAs (with_last out last) i e new r → Filling rlgr3 4097 B (with_last new r.2) r.1 r.0 × (i < r.0)
      longer_next e q new r p = rw (p.stored, p.state, p.next) (filling_next rlgr3 4097 B (with_last out last) c i w h e q)

      pub longer_bad : (k : Refusal) → Err k ≡ elem_of rlgr3 c.kp c.krp (4097 - i) c.at B → read_list rlgr3 4097 B ≡ bad k
      longer_bad k q = filling_bad rlgr3 4097 B (with_last out last) c i w h k q

-- what filling said, by its answer

module _ (w : Walked) (after : List ℤ) (r : Result (ℕ × ℕ) Refusal) (f : FilledAs w after r) where
  pub filled_whole : (at last : ℕ) → r ≡ Ok (at, last) → w ≡ whole (map fold_z after ++ (last ∷ [])) at
  filled_whole at last e = rw e at f

  pub filled_bad : (q : Refusal) → r ≡ Err q → w ≡ bad q
  filled_bad q e = rw e at f

-- ---- the answer

pub none_meant : (n : ℕ) (new : List ℤ) → n ≡ 4096 → new ≡ replicate n (pos 0) → Answers unclear new false
unfolding is_meant list_meant
none_meant n new l z = record { answer = refl; list = z ∙ ap (λ (k : ℕ). replicate k (pos 0)) l }

pub longer_refused :
    (B : List Bool) (w : Walked) (q : Refusal) (new : List ℤ) (r : Bool) → w ≡ bad q → Answers unclear new r → Answers (longer_meant B w) new r
unfolding longer_meant
longer_refused B w q new r e a = rw e a

module _ (rlgr3 : Bool) (s : List ℕ) (after : List ℤ) (last at : ℕ) (e : read_list rlgr3 4097 (bits_of s) ≡ whole (map fold_z after ++ (last ∷ [])) at) where
  pub longer_inside : at ≤ length s * 8
  longer_inside =
      let t = taken rlgr3 4097 (bits_of s) (map fold_z after ++ (last ∷ [])) at e in
      omega (
        arith,
        ap length t.bits,
        t.place,
        length-append (code_of rlgr3 (map fold_z after ++ (last ∷ []))) (drop at (bits_of s)),
        length_bits_of s,
      )

  pub longer_tail :
      (new : List ℤ) (r : Bool) → clean (drop at (bits_of s)) ≡ false → Answers unclear new r →
      Answers (longer_meant (bits_of s) (read_list rlgr3 4097 (bits_of s))) new r
  unfolding longer_meant
  longer_tail new r t a = rw e (subst (λ m. Answers m new r) (fails (clean (drop at (bits_of s))) unclear _ unclear t refl) a)

  module _ (n : length after ≡ 4096) (t : clean (drop at (bits_of s)) ≡ true) where
    last_is : get_or (map fold_z after ++ (last ∷ [])) 4096 0 ≡ last
    last_is = get_or_at (map fold_z after) last [] 0 4096 (length-map after fold_z ∙ n)

    pub longer_other :
        (new : List ℤ) (r : Bool) → (last ≡ 1 → ⊥) → Answers unclear new r → Answers (longer_meant (bits_of s) (read_list rlgr3 4097 (bits_of s))) new r
    unfolding longer_meant
    longer_other new r l a =
        rw e
        (subst (λ m. Answers m new r)
        (passes (clean (drop at (bits_of s))) unclear _ unclear t
        (fails (eqb (get_or (map fold_z after ++ (last ∷ [])) 4096 0) 1) unclear _ unclear (ne_eqb _ 1 (λ x. l (sym last_is ∙ x))) refl))
        a)

    pub longer_is : last ≡ 1 → Answers (longer_meant (bits_of s) (read_list rlgr3 4097 (bits_of s))) after true
    unfolding longer_meant is_meant list_meant
    longer_is l =
        let xs = map fold_z after ++ (last ∷ []) in
        let k : map unfold_z (take 4096 xs) ≡ after =
        ap (map unfold_z) (take_at (map fold_z after) (last ∷ []) 4096 (length-map after fold_z ∙ n)) ∙ map_unfold after in
        rw e
        (subst (λ m. Answers m after true)
        (passes (clean (drop at (bits_of s))) unclear _ (means (map unfold_z (take 4096 xs))) t
        (passes (eqb (get_or xs 4096 0) 1) unclear _ (means (map unfold_z (take 4096 xs))) (eq-eqb _ 1 (last_is ∙ l)) refl))
        (record { answer = refl; list = sym k }))
