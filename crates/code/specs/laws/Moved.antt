-- An element that lies whole in a front P of the bits at a place is the element at that place.
use Rattle.std.specs.Prelude.{Result, Ok, Err}
use Rattle.std.specs.Prelude.{Option, None}
use Prim.Native.Nat.{ℕ, zero, suc, ◌+◌, ◌*◌, ◌-◌, ◌/◌, ◌≤◌}
use Rattle.std.specs.Prelude.{◌≡◌, refl, true, false, length, drop, ltb, leb}
use Rattle.std.proofs.Common.{sym, ap, ◌∙◌, arith, length-append, length-drop, drop-drop}
use Rattle.std.proofs.Math.Bool.{Bool}
use mathlib.Core.List.{List, ◌++◌, append_assoc}
use Rattle.std.proofs.lemmas.List.{drop-append-le}
use Rattle.bits.specs.Bits.{got, num_bits, num_of, gr_of, gr_bits}
use Rattle.bits.specs.laws.Bit.{length_num_bits}
use Rattle.bits.specs.laws.Here.{num_here, gr_here, num_there, gr_there}
use Rattle.whole.specs.Row.{◌⇒◌∣◌}
use Rattle.code.specs.Code.{kr_after, kp_one, kp_two, size}
use Rattle.code.specs.Fill.{onward_of}
use Rattle.code.specs.ReadList.{state_at, run_third, run_second, run_first, run_elem, one_elem, wide, no_second_place, two_second, two_elem, elem_of}
use Rattle.wire.specs.declared.Refusal.{Refusal}
use Rattle.wire.specs.declared.Refusal.TheVariants.{Cut, Range, Overrun}
use Rattle.code.specs.declared.element.Element.{Element}
use Rattle.code.specs.declared.element.Element.TheVariants.{Zeros, One, Two}

-- the same element, its state's place counted from `at` on
abbrev pub later : ℕ → Result Element Refusal → Result Element Refusal
later at (Err r) = Err r
later at (Ok (Zeros n s)) = Ok (Zeros n (onward_of at s))
later at (Ok (One z v s)) = Ok (One z v (onward_of at s))
later at (Ok (Two a b s)) = Ok (Two a b (onward_of at s))

-- an element that is judged, by one test and by two
judged : (at : ℕ) (x y : Result Element Refusal) (b : Bool) → (b ⇒ later at x ∣ later at y) ≡ later at (b ⇒ x ∣ y)
unfolding ◌⇒◌∣◌
judged at x y true = refl
judged at x y false = refl

judged_twice : (at : ℕ) (x y z : Result Element Refusal) (b c : Bool) → (b ⇒ later at x ∣ c ⇒ later at y ∣ later at z) ≡ later at (b ⇒ x ∣ c ⇒ y ∣ z)
unfolding ◌⇒◌∣◌
judged_twice at x y z true c = refl
judged_twice at x y z false true = refl
judged_twice at x y z false false = refl

module _ (at : ℕ) (P rest B : List Bool) (h : drop at B ≡ P ++ rest) where
  here : (i : ℕ) → i ≤ length P → drop (at + i) B ≡ drop i P ++ rest
  here i l = sym (drop-drop i at B) ∙ ap (λ (x : List Bool). drop i x) h ∙ drop-append-le i P rest l

  num_moved : (k i n next : ℕ) → i ≤ length P → num_of k 0 i (drop i P) ≡ got n next →
      (num_of k 0 (at + i) (drop (at + i) B) ≡ got n (at + next)) × (next ≤ length P)
  num_moved k i n next l e =
      let t = num_there k i P n next e in
      let d : drop (at + i) B ≡ num_bits k n ++ (drop next P ++ rest) =
      here i l ∙ ap (λ (x : List Bool). x ++ rest) t.2 ∙ append_assoc (num_bits k n) (drop next P) rest in
      let p : at + i + k ≡ at + next = omega (arith, t.1) in
      let m = ap length t.2 ∙ length-append (num_bits k n) (drop next P) in
      let w = (num_here k n (at + i) B (drop next P ++ rest) d t.0).0 in
      (w ∙ ap (λ (x : ℕ). got n x) p, omega (arith, t.1, m, length_num_bits k n, length-drop i P, length-drop next P))

  gr_moved : (k i g next : ℕ) → i ≤ length P → gr_of k i P ≡ got g next → (gr_of k (at + i) B ≡ got g (at + next)) × (next ≤ length P)
  gr_moved k i g next l e =
      let t = gr_there k i P g next e in
      let d : drop (at + i) B ≡ gr_bits k g ++ (drop next P ++ rest) =
      here i l ∙ ap (λ (x : List Bool). x ++ rest) t.1 ∙ append_assoc (gr_bits k g) (drop next P) rest in
      let p : at + i + length (gr_bits k g) ≡ at + next = omega (arith, t.0) in
      let m = ap length t.1 ∙ length-append (gr_bits k g) (drop next P) in
      ((gr_here k g (at + i) B (drop next P ++ rest) d).0 ∙ ap (λ (x : ℕ). got g x) p, omega (arith, t.0, m, length-drop i P, length-drop next P))

  one_moved : (kp krp i : ℕ) (r : Option (ℕ × ℕ)) → i ≤ length P → gr_of (krp / 8) i P ≡ r → (one_elem kp krp r ≡ Err Cut → ⊥) →
      one_elem kp krp (gr_of (krp / 8) (at + i) B) ≡ later at (one_elem kp krp r)
  one_moved kp krp i None l e n = absurd (n refl)
  one_moved kp krp i (got g next) l e n =
      let v : Result Element Refusal = Ok (One 0 g (state_at next (kp_one kp g) (kr_after krp g))) in
      rw (gr_moved (krp / 8) i g next l e).0 (judged at (Err Range) v (ltb 65534 g))

  two_moved : (kp krp left i : ℕ) (r : Option (ℕ × ℕ)) → i ≤ length P → gr_of (krp / 8) i P ≡ r → (two_elem kp krp left P r ≡ Err Cut → ⊥) →
      two_elem kp krp left B (gr_of (krp / 8) (at + i) B) ≡ later at (two_elem kp krp left P r)
  two_moved kp krp left i None l e n = absurd (n refl)
  two_moved kp krp left i (got g mid) l e n =
      let m = gr_moved (krp / 8) i g mid l e in
      rw m.0 (half (num_of (size g) 0 mid (drop mid P)) m.1 refl n)
    where
      half : (r : Option (ℕ × ℕ)) → mid ≤ length P → num_of (size g) 0 mid (drop mid P) ≡ r → (two_second kp krp left g r ≡ Err Cut → ⊥) →
          two_second kp krp left g (num_of (size g) 0 (at + mid) (drop (at + mid) B)) ≡ later at (two_second kp krp left g r)
      half None l f n = absurd (n refl)
      half (got a next) l f n =
          let v : Result Element Refusal = Ok (Two a (g - a) (state_at next (kp_two kp a (g - a)) (kr_after krp g))) in
          rw (num_moved (size g) mid a next l f).0 (judged_twice at (Err Range) (Err Overrun) v (wide g a) (no_second_place left (g - a)))

  run_moved : (kp krp left i : ℕ) (r : Option (ℕ × ℕ)) → i ≤ length P → num_of 1 0 i (drop i P) ≡ r → (run_elem kp krp left P r ≡ Err Cut → ⊥) →
      run_elem kp krp left B (num_of 1 0 (at + i) (drop (at + i) B)) ≡ later at (run_elem kp krp left P r)
  run_moved kp krp left i None l e n = absurd (n refl)
  run_moved kp krp left i (got zero next) l e n = rw (num_moved 1 i 0 next l e).0 refl
  run_moved kp krp left i (got (suc b) mid) l e n =
      let m = num_moved 1 i (suc b) mid l e in
      rw m.0 (zeros (num_of (kp / 8) 0 mid (drop mid P)) m.1 refl n)
    where
      value : (z s mid : ℕ) (r : Option (ℕ × ℕ)) → mid ≤ length P → gr_of (krp / 8) mid P ≡ r → (run_third kp krp left z s r ≡ Err Cut → ⊥) →
          run_third kp krp left z s (gr_of (krp / 8) (at + mid) B) ≡ later at (run_third kp krp left z s r)
      value z s mid None l f n = absurd (n refl)
      value z s mid (got g next) l f n =
          let v : Result Element Refusal = Ok (One z (2 * (g + 1) - s) (state_at next (kp - 6) (kr_after krp g))) in
          rw (gr_moved (krp / 8) mid g next l f).0 (judged_twice at (Err Range) (Err Overrun) v (ltb 32766 g) (leb left z))

      sign : (z mid : ℕ) (r : Option (ℕ × ℕ)) → mid ≤ length P → num_of 1 0 mid (drop mid P) ≡ r → (run_second kp krp left P z r ≡ Err Cut → ⊥) →
          run_second kp krp left B z (num_of 1 0 (at + mid) (drop (at + mid) B)) ≡ later at (run_second kp krp left P z r)
      sign z mid None l f n = absurd (n refl)
      sign z mid (got s next) l f n =
          let m = num_moved 1 mid s next l f in
          rw m.0 (value z s next (gr_of (krp / 8) next P) m.1 refl n)

      zeros : (r : Option (ℕ × ℕ)) → mid ≤ length P → num_of (kp / 8) 0 mid (drop mid P) ≡ r → (run_first kp krp left P r ≡ Err Cut → ⊥) →
          run_first kp krp left B (num_of (kp / 8) 0 (at + mid) (drop (at + mid) B)) ≡ later at (run_first kp krp left P r)
      zeros None l f n = absurd (n refl)
      zeros (got z next) l f n =
          let m = num_moved (kp / 8) mid z next l f in
          rw m.0 (sign z next (num_of 1 0 next (drop next P)) m.1 refl n)

  -- unless it is cut in P, what is read at place i of P is what is read in B
  pub elem_moved : (rlgr3 : Bool) (kp krp left i : ℕ) → i ≤ length P → (elem_of rlgr3 kp krp left i P ≡ Err Cut → ⊥) →
      elem_of rlgr3 kp krp left (at + i) B ≡ later at (elem_of rlgr3 kp krp left i P)
  unfolding elem_of
  elem_moved rlgr3 kp krp left i l n = go (ltb kp 8) rlgr3 n
    where
      parts : Bool → Bool → ℕ → List Bool → Result Element Refusal
      parts b rlgr3 k L =
          b ⇒ (rlgr3 ⇒ two_elem kp krp left L (gr_of (krp / 8) k L) ∣ one_elem kp krp (gr_of (krp / 8) k L)) ∣
          run_elem kp krp left L (num_of 1 0 k (drop k L))

      go : (b rlgr3 : Bool) → (parts b rlgr3 i P ≡ Err Cut → ⊥) → parts b rlgr3 (at + i) B ≡ later at (parts b rlgr3 i P)
      go true true n = two_moved kp krp left i (gr_of (krp / 8) i P) l refl n
      go true false n = one_moved kp krp i (gr_of (krp / 8) i P) l refl n
      go false rlgr3 n = run_moved kp krp left i (num_of 1 0 i (drop i P)) l refl n
