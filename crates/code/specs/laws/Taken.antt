-- Whatever is taken is the code of the list handed back.
use Rattle.std.specs.Prelude.{Result, Ok, Err}
use Rattle.std.specs.Prelude.{Option, None}
use Prim.Native.Nat.{ℕ, zero, suc, ◌+◌, ◌*◌, ◌-◌, ◌/◌, ◌%◌, ◌^◌, ◌≤◌, ◌<◌, min}
use Rattle.std.specs.Prelude.{◌≡◌, Bool, length, drop, take, get_or, replicate, leb, eqb}
use Rattle.std.proofs.Math.Path.{refl, ap}
use Rattle.std.proofs.Common.{sym, ◌∙◌, arith, div-one, add-zero, drop_at, pow_pos}
use Rattle.std.proofs.Math.Bool.{true, false}
use mathlib.Core.List.{List, [], ◌∷◌, ◌++◌, append_assoc, append-nil}
use borrow.Author.Tests.{ltb-true, ltb-false, leb-false}
use Rattle.std.proofs.Math.ListN.{length-append, length-replicate, length-take}
use Rattle.std.proofs.lemmas.List.{get_or_at}
use Rattle.std.proofs.Math.Seq.{take-nil}
use Rattle.std.proofs.Math.Dec.{ltb}
use Rattle.bits.specs.Bits.{got, odd, num_bits, num_of, gr_of, gr_bits}
use Rattle.bits.specs.laws.Bit.{length_num_bits}
use Rattle.bits.specs.laws.Here.{num_there, gr_there}
use Rattle.code.specs.laws.Code.{code_f_full, code_f_rest, code_f_single, code_f_twin}
use Rattle.whole.specs.Row.{◌⇒◌∣◌}
use Rattle.code.specs.Code.{raised, kr_after, size, kp_one, kp_two, zeros_of, run_bits, pair_bits, code_f, InRange}
use Rattle.code.specs.ReadList.{state_at, judge_run, run_third, run_second, run_first, run_elem, one_elem, judge_two, two_second, two_elem, elem_of, whole}
use Rattle.code.specs.ReadList.{bad, step}
use Rattle.code.specs.ReadList.{walk}
use Rattle.code.specs.laws.There.{drop_min}
use Rattle.code.specs.laws.Steps.{kr_le, kp_one_le, kp_two_le}
use Rattle.code.specs.declared.element.State.{State}
use Rattle.wire.specs.Refusal.{refusal_number}
use Rattle.wire.specs.declared.Refusal.{Refusal}
use Rattle.wire.specs.declared.Refusal.TheVariants.{Cut, Range, Overrun}
use Rattle.whole.specs.Among.{among, Among}
use Rattle.whole.specs.laws.Among.{said}
use Rattle.code.specs.declared.element.Element.{Element}
use Rattle.code.specs.declared.element.Element.TheVariants.{Zeros, One, Two}

-- ---- the code of a list by its front

zeros_more : (m : ℕ) (ys : List ℕ) → m ≤ zeros_of (replicate m 0 ++ ys)
unfolding zeros_of
zeros_more zero ys = omega arith
zeros_more (suc m) ys = omega (arith, zeros_more m ys)

zeros_is : (z v : ℕ) (ys : List ℕ) → 0 < v → zeros_of (replicate z 0 ++ (v ∷ ys)) ≡ z
unfolding zeros_of
zeros_is zero zero ys h = absurd (omega arith)
zeros_is zero (suc v) ys h = refl
zeros_is (suc z) v ys h = ap suc (zeros_is z v ys h)

module _ (f : ℕ) (rlgr3 : Bool) (kp krp : ℕ) (h : 8 ≤ kp) where
  code_full :
      (left : ℕ) (ys : List ℕ) → 0 < left → length (replicate {A = ℕ} (min (2 ^ (kp / 8)) left) 0) + length ys ≡ left →
      code_f (suc f) rlgr3 kp krp (replicate (min (2 ^ (kp / 8)) left) 0 ++ ys) ≡ false ∷ code_f f rlgr3 (raised 4 kp) krp ys
  code_full left ys pl e =
      let n = 2 ^ (kp / 8) in
      let m = min n left in
      let l = replicate m 0 ++ ys in
      let len : length l ≡ left = length-append (replicate m 0) ys ∙ e in
      let m' : min n (length l) ≡ m = omega (arith, len) in
      let d : drop n l ≡ ys = drop_min n l ∙ ap (λ (x : ℕ). drop x l) m' ∙ drop_at (replicate m 0) ys m (length-replicate m 0) in
      code_f_full f rlgr3 kp krp h l (omega (arith, len)) (omega (arith, zeros_more m ys, m')) ∙ ap
      (λ (x : List ℕ). false ∷ code_f f rlgr3 (raised 4 kp) krp x) d

  code_run :
      (z v : ℕ) (ys : List ℕ) → 0 < v → z < 2 ^ (kp / 8) →
      code_f (suc f) rlgr3 kp krp ((replicate z 0 ++ (v ∷ [])) ++ ys) ≡ run_bits kp krp z v ++ code_f f rlgr3 (kp - 6) (kr_after krp ((v - 1) / 2)) ys
  code_run z v ys v0 hz =
      let p = replicate z 0 ++ (v ∷ []) in
      let a : p ++ ys ≡ replicate z 0 ++ (v ∷ ys) = append_assoc (replicate z 0) (v ∷ []) ys in
      let len : length p ≡ suc z = length-append (replicate z 0) (v ∷ []) ∙ omega (arith, length-replicate {A = ℕ} z 0) in
      let ez : zeros_of (p ++ ys) ≡ z = ap zeros_of a ∙ zeros_is z v ys v0 in
      let ev : get_or (p ++ ys) z 0 ≡ v = ap (λ (l : List ℕ). get_or l z 0) a ∙ get_or_at (replicate z 0) v ys 0 z (length-replicate z 0) in
      code_f_rest f rlgr3 kp krp h (p ++ ys) z v ez ev hz (omega (arith, len, length-append p ys))
      ∙ ap (λ (l : List ℕ). run_bits kp krp z v ++ code_f f rlgr3 (kp - 6) (kr_after krp ((v - 1) / 2)) l) (drop_at p ys (suc z) len)

code_two :
    (f kp krp a b left : ℕ) (ys : List ℕ) → kp < 8 → 0 < left → (left < 2 → b ≡ 0) → length (take left (a ∷ b ∷ [])) + length ys ≡ left →
    code_f (suc f) true kp krp (take left (a ∷ b ∷ []) ++ ys) ≡ pair_bits krp a b ++ code_f f true (kp_two kp a b) (kr_after krp (a + b)) ys
code_two f kp krp a b zero ys h p l e = absurd (omega arith)
code_two f kp krp a b (suc zero) [] h p l e = let z : b ≡ 0 = l (omega arith) in rw z (code_f_twin f kp krp a [] h)
code_two f kp krp a b (suc zero) (y ∷ ys) h p l e = absurd (omega arith)
code_two f kp krp a b (suc (suc n)) ys h p l e = rw (take-nil n) (code_f_twin f kp krp a (b ∷ ys) h)

parity : (g s : ℕ) → s < 2 → s % 2 ≡ (2 * (g + 1) - s) % 2
parity g s h = omega arith

-- ---- what an element took

-- the element has the places `front` and leaves the state s: its bits H stand at `at`, and they begin the code of every list that begins with front
pub record Took (rlgr3 : Bool) (kp krp left at : ℕ) (B : List Bool) (front : List ℕ) (s : State) : Type 0 where
  pub H : List Bool
  pub bits : drop at B ≡ H ++ drop s.at B
  pub place : s.at ≡ at + length H
  pub some : 0 < length front
  pub fits : length front ≤ left
  pub range : InRange front
  pub kps : kp ≤ 80 → s.kp ≤ 80
  pub krs : krp ≤ 80 → s.krp ≤ 80
  pub code : (f : ℕ) (ys : List ℕ) → length front + length ys ≡ left → code_f (suc f) rlgr3 kp krp (front ++ ys) ≡ H ++ code_f f rlgr3 s.kp s.krp ys

abbrev pub Told : Bool → ℕ → ℕ → ℕ → ℕ → List Bool → Result Element Refusal → Type 0
Told rlgr3 kp krp left at B (Err r) = Among (1 ∷ 9 ∷ 10 ∷ []) (refusal_number r)
Told rlgr3 kp krp left at B (Ok (Zeros n s)) = Took rlgr3 kp krp left at B (replicate (min n left) 0) s
Told rlgr3 kp krp left at B (Ok (One z v s)) = Took rlgr3 kp krp left at B (replicate z 0 ++ (v ∷ [])) s
Told rlgr3 kp krp left at B (Ok (Two a b s)) = Took rlgr3 kp krp left at B (take left (a ∷ b ∷ [])) s

-- the three refusals of a code
cut_told : Among (1 ∷ 9 ∷ 10 ∷ []) (refusal_number Cut)
unfolding among
cut_told = said refl

range_told : Among (1 ∷ 9 ∷ 10 ∷ []) (refusal_number Range)
unfolding among
range_told = said refl

overrun_told : Among (1 ∷ 9 ∷ 10 ∷ []) (refusal_number Overrun)
unfolding among
overrun_told = said refl

bit_there : (at : ℕ) (B : List Bool) (n next : ℕ) → num_of 1 0 at (drop at B) ≡ got n next → (n < 2) × (next ≡ at + 1) × (drop at B ≡ odd n ∷ drop next B)
unfolding num_bits
bit_there at B n next e =
    let r = num_there 1 at B n next e in
    (r.0, r.1, r.2 ∙ ap (λ (x : ℕ). odd x ∷ drop next B) (div-one n))

zeros_range : (m : ℕ) → InRange (replicate m 0)
zeros_range zero i = omega arith
zeros_range (suc m) zero = omega arith
zeros_range (suc m) (suc i) = zeros_range m i

run_range : (z v : ℕ) → v ≤ 65534 → InRange (replicate z 0 ++ (v ∷ []))
run_range zero v h zero = h
run_range zero v h (suc i) = omega arith
run_range (suc z) v h zero = omega arith
run_range (suc z) v h (suc i) = run_range z v h i

pair_range : (left a b : ℕ) → a ≤ 65534 → b ≤ 65534 → InRange (take left (a ∷ b ∷ []))
pair_range zero a b ha hb i = omega arith
pair_range (suc zero) a b ha hb zero = ha
pair_range (suc zero) a b ha hb (suc i) = omega arith
pair_range (suc (suc n)) a b ha hb zero = ha
pair_range (suc (suc n)) a b ha hb (suc zero) = hb
pair_range (suc (suc n)) a b ha hb (suc (suc i)) = rw (take-nil n) (omega arith)

module _ (rlgr3 : Bool) (kp krp left at : ℕ) (B : List Bool) (pl : 0 < left) where
  told_full :
      8 ≤ kp → (next : ℕ) → next ≡ at + 1 → drop at B ≡ false ∷ drop next B →
      Took rlgr3 kp krp left at B (replicate (min (2 ^ (kp / 8)) left) 0) (state_at next (raised 4 kp) krp)
  told_full h next en e = record {
    H = false ∷ [];
    bits = e;
    place = en;
    some = rw (length-replicate) (omega (arith, pow_pos (kp / 8)));
    fits = rw (length-replicate) (omega arith);
    range = zeros_range (min (2 ^ (kp / 8)) left);
    kps = λ p. omega arith;
    krs = λ p. p;
    code = λ f ys l. code_full f rlgr3 kp krp h left ys pl l;
  }

  told_run :
      8 ≤ kp → (z v g next : ℕ) → (v - 1) / 2 ≡ g → z < 2 ^ (kp / 8) → z < left → 0 < v → v ≤ 65534 →
      next ≡ at + 1 + kp / 8 + 1 + length (gr_bits (krp / 8) g) → drop at B ≡ true ∷ (num_bits (kp / 8) z ++ (odd v ∷ (gr_bits (krp / 8) g ++ drop next B))) →
      Took rlgr3 kp krp left at B (replicate z 0 ++ (v ∷ [])) (state_at next (kp - 6) (kr_after krp g))
  unfolding run_bits
  told_run h z v g next eg hz hl v0 hv en e = record {
    H = run_bits kp krp z v;
    bits = rw eg (e ∙ ap (λ (l : List Bool). true ∷ l) (sym (append_assoc (num_bits (kp / 8) z) (odd v ∷ gr_bits (krp / 8) g) (drop next B))));
    place = rw eg (omega (arith, length-append (num_bits (kp / 8) z) (odd v ∷ gr_bits (krp / 8) g), length_num_bits (kp / 8) z));
    some = omega (arith, length-append (replicate z 0) (v ∷ []));
    fits = omega (arith, length-append (replicate z 0) (v ∷ []), length-replicate {A = ℕ} z 0);
    range = run_range z v hv;
    kps = λ p. omega arith;
    krs = kr_le krp g;
    code = λ f ys l. rw (← eg) (code_run f rlgr3 kp krp h z v ys v0 hz);
  }

  -- the run's value, step by step
  told_judge :
      8 ≤ kp → (z s g next : ℕ) → z < 2 ^ (kp / 8) → s < 2 → next ≡ at + 1 + kp / 8 + 1 + length (gr_bits (krp / 8) g) →
      drop at B ≡ true ∷ (num_bits (kp / 8) z ++ (odd s ∷ (gr_bits (krp / 8) g ++ drop next B))) →
      Told rlgr3 kp krp left at B (judge_run kp krp left z s g next)
  unfolding run_bits ◌⇒◌∣◌
  told_judge h z s g next hz hs en e = go (ltb 32766 g) refl (leb left z) refl
    where
      v : ℕ
      v = 2 * (g + 1) - s

      go :
          (b : Bool) → ltb 32766 g ≡ b → (c : Bool) → leb left z ≡ c →
          Told rlgr3 kp krp left at B (b ⇒ Err Range ∣ c ⇒ Err Overrun ∣ Ok (One z v (state_at next (kp - 6) (kr_after krp g))))
      go true e₁ c e₂ = range_told
      go false e₁ true e₂ = overrun_told
      go false e₁ false e₂ =
          let g0 : g ≤ 32766 = ltb-false 32766 g e₁ in
          let o : odd s ≡ odd v = ap (λ (x : ℕ). eqb x 1) (parity g s hs) in
          told_run h z v g next (omega arith) hz (leb-false left z e₂) (omega arith) (omega arith) en (rw (← o) e)

  told_third :
      8 ≤ kp → (z s : ℕ) (mid : ℕ) → z < 2 ^ (kp / 8) → s < 2 → mid ≡ at + 1 + kp / 8 + 1 →
      drop at B ≡ true ∷ (num_bits (kp / 8) z ++ (odd s ∷ drop mid B)) → (r : Option (ℕ × ℕ)) → gr_of (krp / 8) mid B ≡ r →
      Told rlgr3 kp krp left at B (run_third kp krp left z s r)
  told_third h z s mid hz hs em e None er = cut_told
  told_third h z s mid hz hs em e (got g next) er =
      let r = gr_there (krp / 8) mid B g next er in
      told_judge h z s g next hz hs (rw (← em) r.0) (rw (← r.1) e)

  told_second :
      8 ≤ kp → (z mid : ℕ) → z < 2 ^ (kp / 8) → mid ≡ at + 1 + kp / 8 → drop at B ≡ true ∷ (num_bits (kp / 8) z ++ drop mid B) → (r : Option (ℕ × ℕ)) →
      num_of 1 0 mid (drop mid B) ≡ r → Told rlgr3 kp krp left at B (run_second kp krp left B z r)
  told_second h z mid hz em e None er = cut_told
  told_second h z mid hz em e (got s next) er =
      let r = bit_there mid B s next er in
      told_third h z s next hz r.0 (omega (arith, r.1)) (rw (← r.2) e) (gr_of (krp / 8) next B) refl

  told_first :
      8 ≤ kp → (mid : ℕ) → mid ≡ at + 1 → drop at B ≡ true ∷ drop mid B → (r : Option (ℕ × ℕ)) → num_of (kp / 8) 0 mid (drop mid B) ≡ r →
      Told rlgr3 kp krp left at B (run_first kp krp left B r)
  told_first h mid em e None er = cut_told
  told_first h mid em e (got z next) er =
      let r = num_there (kp / 8) mid B z next er in
      told_second h z next r.0 (omega (arith, r.1)) (rw (← r.2) e) (num_of 1 0 next (drop next B)) refl

  told_high : 8 ≤ kp → (r : Option (ℕ × ℕ)) → num_of 1 0 at (drop at B) ≡ r → Told rlgr3 kp krp left at B (run_elem kp krp left B r)
  told_high h None er = cut_told
  told_high h (got zero next) er = let r = bit_there at B 0 next er in told_full h next r.1 r.2
  told_high h (got (suc zero) next) er = let r = bit_there at B 1 next er in told_first h next r.1 r.2 (num_of (kp / 8) 0 next (drop next B)) refl
  told_high h (got (suc (suc n)) next) er = absurd (omega (arith, (bit_there at B (suc (suc n)) next er).0))

module _ (kp krp left at : ℕ) (B : List Bool) (pl : 0 < left) (h : kp < 8) where
  told_one : (r : Option (ℕ × ℕ)) → gr_of (krp / 8) at B ≡ r → Told false kp krp left at B (one_elem kp krp r)
  unfolding ◌⇒◌∣◌
  told_one None er = cut_told
  told_one (got g next) er = go (ltb 65534 g) refl
    where
      go : (b : Bool) → ltb 65534 g ≡ b → Told false kp krp left at B (b ⇒ Err Range ∣ Ok (One 0 g (state_at next (kp_one kp g) (kr_after krp g))))
      go true e = range_told
      go false e =
          let r = gr_there (krp / 8) at B g next er in
          record {
            H = gr_bits (krp / 8) g;
            bits = r.1;
            place = r.0;
            some = omega arith;
            fits = omega arith;
            range = run_range 0 g (ltb-false 65534 g e);
            kps = kp_one_le kp g;
            krs = kr_le krp g;
            code = λ f ys l. code_f_single f kp krp g ys h;
          }

  told_pair :
      (g a b mid next : ℕ) → a + b ≡ g → a ≤ 65534 → b ≤ 65534 → (left < 2 → b ≡ 0) → mid ≡ at + length (gr_bits (krp / 8) g) →
      drop at B ≡ gr_bits (krp / 8) g ++ drop mid B → next ≡ mid + size g → drop mid B ≡ num_bits (size g) a ++ drop next B →
      Took true kp krp left at B (take left (a ∷ b ∷ [])) (state_at next (kp_two kp a b) (kr_after krp g))
  unfolding pair_bits
  told_pair g a b mid next eg ha hb hl em e en e' = record {
    H = pair_bits krp a b;
    bits = rw (eg, append_assoc (gr_bits (krp / 8) g) (num_bits (size g) a) (drop next B), ← e') e;
    place = rw eg (omega (arith, length-append (gr_bits (krp / 8) g) (num_bits (size g) a), length_num_bits (size g) a));
    some = omega (arith, length-take left (a ∷ b ∷ []));
    fits = omega (arith, length-take left (a ∷ b ∷ []));
    range = pair_range left a b ha hb;
    kps = kp_two_le kp a b;
    krs = kr_le krp g;
    code = λ f ys l. rw (← eg) (code_two f kp krp a b left ys h pl hl l);
  }

  told_twice :
      (g a mid next : ℕ) → mid ≡ at + length (gr_bits (krp / 8) g) → drop at B ≡ gr_bits (krp / 8) g ++ drop mid B → next ≡ mid + size g →
      drop mid B ≡ num_bits (size g) a ++ drop next B → Told true kp krp left at B (judge_two kp krp left g a next)
  unfolding ◌⇒◌∣◌
  told_twice g a mid next em e en e' = go (ltb g a) refl (ltb 65534 a) refl (ltb 65534 (g - a)) refl (ltb left 2) refl (ltb 0 (g - a)) refl
    where
      go :
          (b₁ : Bool) → ltb g a ≡ b₁ → (b₂ : Bool) → ltb 65534 a ≡ b₂ → (b₃ : Bool) → ltb 65534 (g - a) ≡ b₃ → (b₄ : Bool) → ltb left 2 ≡ b₄ → (b₅ : Bool) →
          ltb 0 (g - a) ≡ b₅ →
          Told true kp krp left at B
          ((b₁ ⇒ true ∣ b₂ ⇒ true ∣ b₃) ⇒ Err Range ∣ (b₄ ⇒ b₅ ∣ false) ⇒ Err Overrun ∣ Ok (Two a (g - a)
          (state_at next (kp_two kp a (g - a)) (kr_after krp g))))
      go true e₁ b₂ e₂ b₃ e₃ b₄ e₄ b₅ e₅ = range_told
      go false e₁ true e₂ b₃ e₃ b₄ e₄ b₅ e₅ = range_told
      go false e₁ false e₂ true e₃ b₄ e₄ b₅ e₅ = range_told
      go false e₁ false e₂ false e₃ true e₄ true e₅ = overrun_told
      go false e₁ false e₂ false e₃ true e₄ false e₅ =
          told_pair g a (g - a) mid next (omega (arith, ltb-false g a e₁)) (ltb-false 65534 a e₂) (ltb-false 65534 (g - a) e₃)
          (λ l. omega (arith, ltb-false 0 (g - a) e₅)) em e en e'
      go false e₁ false e₂ false e₃ false e₄ b₅ e₅ =
          told_pair g a (g - a) mid next (omega (arith, ltb-false g a e₁)) (ltb-false 65534 a e₂) (ltb-false 65534 (g - a) e₃)
          (λ l. absurd (omega (arith, ltb-false left 2 e₄))) em e en e'

  told_half :
      (g mid : ℕ) → mid ≡ at + length (gr_bits (krp / 8) g) → drop at B ≡ gr_bits (krp / 8) g ++ drop mid B → (r : Option (ℕ × ℕ)) →
      num_of (size g) 0 mid (drop mid B) ≡ r → Told true kp krp left at B (two_second kp krp left g r)
  told_half g mid em e None er = cut_told
  told_half g mid em e (got a next) er =
      let r = num_there (size g) mid B a next er in
      told_twice g a mid next em e r.1 r.2

  told_two : (r : Option (ℕ × ℕ)) → gr_of (krp / 8) at B ≡ r → Told true kp krp left at B (two_elem kp krp left B r)
  told_two None er = cut_told
  told_two (got g mid) er =
      let r = gr_there (krp / 8) at B g mid er in
      told_half g mid r.0 r.1 (num_of (size g) 0 mid (drop mid B)) refl

-- whatever element is read, its bits stand there and begin the code
pub elem_told : (rlgr3 : Bool) (kp krp left at : ℕ) (B : List Bool) → 0 < left → Told rlgr3 kp krp left at B (elem_of rlgr3 kp krp left at B)
unfolding elem_of
elem_told rlgr3 kp krp left at B pl = go (ltb kp 8) refl rlgr3
  where
    go :
        (b : Bool) → ltb kp 8 ≡ b → (rlgr3 : Bool) →
        Told rlgr3 kp krp left at B
        (b ⇒ (rlgr3 ⇒ two_elem kp krp left B (gr_of (krp / 8) at B) ∣ one_elem kp krp (gr_of (krp / 8) at B)) ∣ run_elem kp krp left B
        (num_of 1 0 at (drop at B)))
    go true e true = told_two kp krp left at B pl (ltb-true kp 8 e) (gr_of (krp / 8) at B) refl
    go true e false = told_one kp krp left at B pl (ltb-true kp 8 e) (gr_of (krp / 8) at B) refl
    go false e rlgr3 = told_high rlgr3 kp krp left at B pl (ltb-false kp 8 e) (num_of 1 0 at (drop at B)) refl

-- ---- a whole list

pub record Read (f : ℕ) (rlgr3 : Bool) (kp krp at left : ℕ) (done : List ℕ) (B : List Bool) (ys : List ℕ) (next : ℕ) : Type 0 where
  pub xs : List ℕ
  pub all : ys ≡ done ++ xs
  pub len : length xs ≡ left
  pub range : InRange xs
  pub place : next ≡ at + length (code_f f rlgr3 kp krp xs)
  pub bits : drop at B ≡ code_f f rlgr3 kp krp xs ++ drop next B

range_append : (a b : List ℕ) → InRange a → InRange b → InRange (a ++ b)
range_append [] b p q i = q i
range_append (x ∷ a) b p q zero = p 0
range_append (x ∷ a) b p q (suc i) = range_append a b (λ j. p (suc j)) q i

module _ (f : ℕ) (rlgr3 : Bool) (kp krp at left : ℕ) (done : List ℕ) (B : List Bool) (ys : List ℕ) (next : ℕ) where
  read_more :
      (front : List ℕ) (s : State) (left' : ℕ) → Took rlgr3 kp krp left at B front s → length front + left' ≡ left →
      Read f rlgr3 s.kp s.krp s.at left' (done ++ front) B ys next → Read (suc f) rlgr3 kp krp at left done B ys next
  read_more front s left' t el r =
      let c : code_f (suc f) rlgr3 kp krp (front ++ r.xs) ≡ t.H ++ code_f f rlgr3 s.kp s.krp r.xs = t.code f r.xs (omega (arith, r.len, el)) in
      record {
        xs = front ++ r.xs;
        all = r.all ∙ append_assoc done front r.xs;
        len = omega (arith, length-append front r.xs, r.len, el);
        range = range_append front r.xs t.range r.range;
        place = omega (arith, ap length c, length-append t.H (code_f f rlgr3 s.kp s.krp r.xs), r.place, t.place);
        bits =
            t.bits ∙ ap (λ (l : List Bool). t.H ++ l) r.bits ∙ sym (append_assoc t.H (code_f f rlgr3 s.kp s.krp r.xs) (drop next B))
            ∙ ap (λ (l : List Bool). l ++ drop next B) (sym c);
      }

  read_step :
      ((s : State) (l : ℕ) (d : List ℕ) → l ≤ f → walk f rlgr3 s.kp s.krp s.at l d B ≡ whole ys next →
      Read f rlgr3 s.kp s.krp s.at l d B ys next) → left ≤ suc f → (e : Result Element Refusal) → Told rlgr3 kp krp left at B e →
      step e left done (λ s l d. walk f rlgr3 s.kp s.krp s.at l d B) ≡ whole ys next → Read (suc f) rlgr3 kp krp at left done B ys next
  read_step ih hl (Err r) t e = let z : ◌≡◌ {A = ℕ} 0 1 = cc in absurd (omega arith)
  read_step ih hl (Ok (Zeros n s)) t e =
      let m : length (replicate {A = ℕ} (min n left) 0) ≡ min n left = length-replicate (min n left) 0 in
      let p : 0 < min n left = rw m at t.some in
      read_more (replicate (min n left) 0) s (left - n) t (omega (arith, m)) (ih s (left - n) (done ++ replicate (min n left) 0) (omega arith) e)
  read_step ih hl (Ok (One z v s)) t e =
      let m : length (replicate z 0 ++ (v ∷ [])) ≡ z + 1 = length-append (replicate z 0) (v ∷ []) ∙ omega (arith, length-replicate {A = ℕ} z 0) in
      read_more (replicate z 0 ++ (v ∷ [])) s (left - (z + 1)) t (omega (arith, m, t.fits))
      (ih s (left - (z + 1)) (done ++ (replicate z 0 ++ (v ∷ []))) (omega arith) e)
  read_step ih hl (Ok (Two a b s)) t e =
      let m : length (take left (a ∷ b ∷ [])) ≡ min left 2 = length-take left (a ∷ b ∷ []) in
      read_more (take left (a ∷ b ∷ [])) s (left - 2) t (omega (arith, m)) (ih s (left - 2) (done ++ take left (a ∷ b ∷ [])) (omega arith) e)

whole_list : {a b : List ℕ} {m n : ℕ} → whole a m ≡ whole b n → a ≡ b
whole_list e = cc

whole_at : {a b : List ℕ} {m n : ℕ} → whole a m ≡ whole b n → m ≡ n
whole_at e = cc

read_none :
    (f : ℕ) (rlgr3 : Bool) (kp krp at : ℕ) (done : List ℕ) (B : List Bool) (ys : List ℕ) (next : ℕ) → code_f f rlgr3 kp krp [] ≡ [] →
    whole done at ≡ whole ys next → Read f rlgr3 kp krp at 0 done B ys next
read_none f rlgr3 kp krp at done B ys next c e =
    record {
      xs = [];
      all = sym (whole_list e)
          ∙ sym (append-nil done);
      len = refl;
      range = λ i. omega arith;
      place = rw c (sym (whole_at e) ∙ sym (add-zero at));
      bits = rw (c, whole_at e);
    }

-- whatever list is read, its code stands there, and its length is the one said
pub read-code :
    (f : ℕ) (rlgr3 : Bool) (kp krp at left : ℕ) (done : List ℕ) (B : List Bool) (ys : List ℕ) (next : ℕ) → left ≤ f →
    walk f rlgr3 kp krp at left done B ≡ whole ys next → Read f rlgr3 kp krp at left done B ys next
unfolding walk code_f
read-code zero rlgr3 kp krp at zero done B ys next h e = read_none zero rlgr3 kp krp at done B ys next refl e
read-code zero rlgr3 kp krp at (suc left) done B ys next h e = absurd (omega arith)
read-code (suc f) rlgr3 kp krp at zero done B ys next h e = read_none (suc f) rlgr3 kp krp at done B ys next refl e
read-code (suc f) rlgr3 kp krp at (suc left) done B ys next h e =
    read_step f rlgr3 kp krp at (suc left) done B ys next (λ s l d le w. read-code f rlgr3 s.kp s.krp s.at l d B ys next le w) h
    (elem_of rlgr3 kp krp (suc left) at B) (elem_told rlgr3 kp krp (suc left) at B (omega arith)) e

-- ---- a refused list: why

bad_is : {r q : Refusal} → bad r ≡ bad q → r ≡ q
bad_is e = cc

module _ (f : ℕ) (rlgr3 : Bool) (B : List Bool) (q : Refusal) where
  refused_step :
      ((s : State) (l : ℕ) (d : List ℕ) → walk f rlgr3 s.kp s.krp s.at l d B ≡ bad q → Among (1 ∷ 9 ∷ 10 ∷ []) (refusal_number q)) →
      (kp krp left at : ℕ) (done : List ℕ) (e : Result Element Refusal) → Told rlgr3 kp krp left at B e →
      step e left done (λ s l d. walk f rlgr3 s.kp s.krp s.at l d B) ≡ bad q → Among (1 ∷ 9 ∷ 10 ∷ []) (refusal_number q)
  refused_step ih kp krp left at done (Err r) t e = rw (← bad_is e) t
  refused_step ih kp krp left at done (Ok (Zeros n s)) t e = ih s _ _ e
  refused_step ih kp krp left at done (Ok (One z v s)) t e = ih s _ _ e
  refused_step ih kp krp left at done (Ok (Two a b s)) t e = ih s _ _ e

pub refused_among :
    (f : ℕ) (rlgr3 : Bool) (kp krp at left : ℕ) (done : List ℕ) (B : List Bool) (q : Refusal) → walk f rlgr3 kp krp at left done B ≡ bad q →
    Among (1 ∷ 9 ∷ 10 ∷ []) (refusal_number q)
unfolding walk
refused_among zero rlgr3 kp krp at left done B q e = let z : ◌≡◌ {A = ℕ} 0 1 = cc in absurd (omega arith)
refused_among (suc f) rlgr3 kp krp at zero done B q e = let z : ◌≡◌ {A = ℕ} 0 1 = cc in absurd (omega arith)
refused_among (suc f) rlgr3 kp krp at (suc left) done B q e =
    refused_step f rlgr3 B q (λ s l d w. refused_among f rlgr3 s.kp s.krp s.at l d B q w) kp krp (suc left) at done
    (elem_of rlgr3 kp krp (suc left) at B) (elem_told rlgr3 kp krp (suc left) at B (omega arith)) e
