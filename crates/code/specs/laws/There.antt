-- Whatever list is put into code is read back: element by element, then whole.
use Rattle.std.specs.Prelude.{Ok}
use Prim.Native.Nat.{ℕ, zero, suc, ◌+◌, ◌*◌, ◌-◌, ◌/◌, ◌^◌, ◌≤◌, ◌<◌, min}
use Rattle.std.specs.Prelude.{◌≡◌, refl, Bool}
use Rattle.std.proofs.Common.{sym, ap₂, ◌∙◌, drop_of_length-le, drop-cons, get_or-drop, pow_pos}
use Rattle.std.proofs.Math.Path.{ap}
use Rattle.std.proofs.Math.Bool.{true, false}
use mathlib.Core.List.{List, [], ◌∷◌, ◌++◌, append_assoc, append-nil}
use native.Mathlib.Omega.{arith}
use native.Mathlib.Nat.{add-sub_cancel_left}
use borrow.Author.Tests.{lt-ltb, le-ltb, lt-leb, ltb-true, ltb-false, leb-true, leb-false}
use Rattle.std.proofs.Math.ListN.{length, drop, take, get_or, replicate, length-append, length-drop}
use Rattle.std.proofs.Math.Seq.{take-nil}
use Rattle.std.proofs.Math.Dec.{ltb, leb}
use Rattle.bits.specs.Bits.{got, odd, val, num_bits, num_of, gr_bits}
use Rattle.bits.specs.laws.Bit.{val_odd, length_num_bits}
use Rattle.bits.specs.laws.Here.{past, num_here, gr_here}
use Rattle.code.specs.laws.Code.{code_f_full, code_f_rest, code_f_single, code_f_twin}
use Rattle.whole.specs.Row.{◌⇒◌∣◌}
use Rattle.code.specs.Code.{raised, kr_after, size, size_f, kp_one, kp_two, zeros_of, run_bits, pair_bits, code_f, InRange}
use Rattle.code.specs.ReadList.{state_at, elem_of, no_second_place, whole, walk}
use Rattle.code.specs.declared.element.Element.TheVariants.{Zeros, One, Two}

pub bit_here :
    (at : ℕ) (B : List Bool) (b : Bool) (rest : List Bool) → drop at B ≡ b ∷ rest →
    (num_of 1 0 at (drop at B) ≡ got (val b) (at + 1)) × (drop (at + 1) B ≡ rest)
unfolding num_of
bit_here at B true rest e = (rw e, past at B (true ∷ []) rest e)
bit_here at B false rest e = (rw e, past at B (false ∷ []) rest e)

-- a number fits in as many bits as it has
pub size_f_fits : (f g : ℕ) → g ≤ f → g < 2 ^ size_f f g
unfolding size_f
size_f_fits zero zero h = omega arith
size_f_fits zero (suc g) h = absurd (omega arith)
size_f_fits (suc f) zero h = omega arith
size_f_fits (suc f) (suc g) h =
    let ih : suc g / 2 < 2 ^ size_f f (suc g / 2) = size_f_fits f (suc g / 2) (omega arith) in
    rw (native.Mathlib.Nat.pow-suc) (omega arith)

pub size_fits : (g : ℕ) → g < 2 ^ size g
unfolding size
size_fits g = size_f_fits g g (omega arith)

pub lone_not : (left b : ℕ) → (left < 2 → b ≡ 0) → no_second_place left b ≡ false
unfolding ◌⇒◌∣◌
lone_not left b h = go (ltb left 2) refl
  where
    go : (t : Bool) → ltb left 2 ≡ t → (t ⇒ ltb 0 b ∣ false) ≡ false
    go true e = le-ltb 0 b (omega (arith, h (ltb-true left 2 e)))
    go false e = refl

-- ---- one element

module _ (kp krp left at : ℕ) (B rest : List Bool) where
  pub elem_full : (rlgr3 : Bool) → 8 ≤ kp → drop at B ≡ false ∷ rest → elem_of rlgr3 kp krp left at B ≡ Ok (Zeros (2 ^ (kp / 8))
      (state_at (at + 1) (raised 4 kp) krp))
  unfolding elem_of
  elem_full rlgr3 h e = rw (le-ltb kp 8 h, (bit_here at B false rest e).0)

  pub elem_one :
      kp < 8 → (v : ℕ) → v ≤ 65534 → drop at B ≡ gr_bits (krp / 8) v ++ rest →
      elem_of false kp krp left at B ≡ Ok (One 0 v (state_at (at + length (gr_bits (krp / 8) v)) (kp_one kp v) (kr_after krp v)))
  unfolding elem_of
  elem_one h v hv e = rw (lt-ltb kp 8 h, (gr_here (krp / 8) v at B rest e).0, le-ltb 65534 v hv)

  pub elem_two :
      kp < 8 → (a b : ℕ) → a ≤ 65534 → b ≤ 65534 → (left < 2 → b ≡ 0) → drop at B ≡ pair_bits krp a b ++ rest →
      elem_of true kp krp left at B ≡ Ok (Two a b (state_at (at + length (pair_bits krp a b)) (kp_two kp a b) (kr_after krp (a + b))))
  unfolding elem_of pair_bits
  elem_two h a b ha hb hl e =
      let n = size (a + b) in
      let G = gr_bits (krp / 8) (a + b) in
      let r = gr_here (krp / 8) (a + b) at B (num_bits n a ++ rest) (e ∙ append_assoc G (num_bits n a) rest) in
      let a0 : a < 2 ^ n = omega (arith, size_fits (a + b)) in
      let m = num_here n a (at + length G) B rest r.1 a0 in
      let d : a + b - a ≡ b = add-sub_cancel_left a b in
      let len : at + length G + n ≡ at + length (G ++ num_bits n a) = omega (arith, length-append G (num_bits n a), length_num_bits n a) in
      rw (lt-ltb kp 8 h, r.0, m.0, le-ltb (a + b) a (omega arith), le-ltb 65534 a ha, d, le-ltb 65534 b hb, lone_not left b hl)
      (ap (λ (x : ℕ). Ok (Two a b (state_at x (kp_two kp a b) (kr_after krp (a + b))))) len)

  pub elem_run :
      (rlgr3 : Bool) → 8 ≤ kp → (z v : ℕ) → z < 2 ^ (kp / 8) → z < left → 0 < v → v ≤ 65534 → drop at B ≡ run_bits kp krp z v ++ rest →
      elem_of rlgr3 kp krp left at B ≡ Ok (One z v (state_at (at + length (run_bits kp krp z v)) (kp - 6) (kr_after krp ((v - 1) / 2))))
  unfolding elem_of run_bits
  elem_run rlgr3 h z v hz hl v0 hv e =
      let k = kp / 8 in
      let g = (v - 1) / 2 in
      let G = gr_bits (krp / 8) g in
      let b = bit_here at B true ((num_bits k z ++ (odd v ∷ G)) ++ rest) e in
      let n = num_here k z (at + 1) B (odd v ∷ (G ++ rest)) (b.1 ∙ append_assoc (num_bits k z) (odd v ∷ G) rest) hz in
      let s = bit_here (at + 1 + k) B (odd v) (G ++ rest) n.1 in
      let r = gr_here (krp / 8) g (at + 1 + k + 1) B rest s.1 in
      let g0 : ltb 32766 g ≡ false = le-ltb 32766 g (omega arith) in
      let l0 : leb left z ≡ false = lt-leb left z hl in
      let v1 : 2 * (g + 1) - val (odd v) ≡ v = rw (val_odd v) (omega arith) in
      let len : at + 1 + k + 1 + length G ≡ at + suc (length (num_bits k z ++ (odd v ∷ G))) =
      omega (arith, length-append (num_bits k z) (odd v ∷ G), length_num_bits k z) in
      rw (le-ltb kp 8 h, b.0, n.0, s.0, r.0, g0, l0, v1) (ap (λ (x : ℕ). Ok (One z v (state_at x (kp - 6) (kr_after krp g)))) len)

-- ---- the zeros at the front

pub zeros_front : (m : ℕ) (l : List ℕ) → m ≤ zeros_of l → replicate m 0 ++ drop m l ≡ l
unfolding zeros_of
zeros_front zero l h = refl
zeros_front (suc m) [] h = absurd (omega arith)
zeros_front (suc m) (zero ∷ xs) h = ap (λ (t : List ℕ). 0 ∷ t) (zeros_front m xs (omega arith))
zeros_front (suc m) (suc x ∷ xs) h = absurd (omega arith)

pub zeros_next : (l : List ℕ) → zeros_of l < length l → 0 < get_or l (zeros_of l) 0
unfolding zeros_of
zeros_next [] h = absurd (omega arith)
zeros_next (zero ∷ xs) h = zeros_next xs (omega arith)
zeros_next (suc x ∷ xs) h = omega arith

pub drop_min : (n : ℕ) (l : List ℕ) → drop n l ≡ drop (min n (length l)) l
drop_min n l =
    elim (native.Mathlib.Decide.dec_le n (length l)) [
      | yes h ↦ (let e : n ≡ min n (length l) = omega arith in ap (λ (m : ℕ). drop m l) e)
      | no h ↦
          drop_of_length-le l {i = n} (omega arith) ∙ sym (drop_of_length-le l {i = min n (length l)} (omega arith))
    ]

-- ---- a whole list

-- that the list xs is read back from its code, which T is
abbrev Back : ℕ → Bool → ℕ → ℕ → List ℕ → List Bool → List Bool → Type 0
Back f rlgr3 kp krp xs T B =
    (at : ℕ) (done : List ℕ) (rest : List Bool) → drop at B ≡ T ++ rest → walk f rlgr3 kp krp at (length xs) done B ≡ whole (done ++ xs) (at + length T)

-- the bits H of an element and then the rest T of the code
turn : (H T rest : List Bool) (at : ℕ) (B : List Bool) → drop at B ≡ (H ++ T) ++ rest → (drop at B ≡ H ++ (T ++ rest)) × (drop (at + length H) B ≡ T ++ rest)
turn H T rest at B e = let e' : drop at B ≡ H ++ (T ++ rest) = e ∙ append_assoc H T rest in (e', past at B H (T ++ rest) e')

fin : (at : ℕ) (H T : List Bool) (a b : List ℕ) → a ≡ b → whole a (at + length H + length T) ≡ whole b (at + length (H ++ T))
fin at H T a b p = ap₂ whole p (omega (arith, length-append H T))

lone_zero : (xs : List ℕ) → length xs ≤ 0 → get_or xs 0 0 ≡ 0
lone_zero [] h = refl
lone_zero (x ∷ xs) h = absurd (omega arith)

two_front : (x : ℕ) (xs : List ℕ) → take (suc (length xs)) (x ∷ get_or xs 0 0 ∷ []) ++ drop 1 xs ≡ x ∷ xs
two_front x [] = refl
two_front x (y ∷ xs) = rw (take-nil (length xs))

run_front : (l : List ℕ) (z v : ℕ) → zeros_of l ≡ z → get_or l z 0 ≡ v → z < length l → (replicate z 0 ++ (v ∷ [])) ++ drop (suc z) l ≡ l
run_front l z v ez ev h = append_assoc (replicate z 0) (v ∷ []) (drop (suc z) l) ∙ rw (← ev, ← drop-cons l z 0 h) (zeros_front z l (omega arith))

module _ (f kp krp : ℕ) (B : List Bool) where
  back_one :
      kp < 8 → (x : ℕ) (xs : List ℕ) (T : List Bool) → x ≤ 65534 → Back f false (kp_one kp x) (kr_after krp x) xs T B →
      Back (suc f) false kp krp (x ∷ xs) (gr_bits (krp / 8) x ++ T) B
  unfolding walk
  back_one h x xs T hx ih at done rest e =
      let H = gr_bits (krp / 8) x in
      let t = turn H T rest at B e in
      let l : suc (length xs) - 1 ≡ length xs = omega arith in
      rw (elem_one kp krp (suc (length xs)) at B (T ++ rest) h x hx t.0, l)
      (ih (at + length H) (done ++ (x ∷ [])) rest t.1 ∙ fin at H T _ _ (append_assoc done (x ∷ []) xs))

  back_two :
      kp < 8 → (x : ℕ) (xs : List ℕ) (T : List Bool) → x ≤ 65534 → get_or xs 0 0 ≤ 65534 →
      Back f true (kp_two kp x (get_or xs 0 0)) (kr_after krp (x + get_or xs 0 0)) (drop 1 xs) T B →
      Back (suc f) true kp krp (x ∷ xs) (pair_bits krp x (get_or xs 0 0) ++ T) B
  unfolding walk
  back_two h x xs T hx hy ih at done rest e =
      let y = get_or xs 0 0 in
      let H = pair_bits krp x y in
      let t = turn H T rest at B e in
      let l : suc (length xs) - 2 ≡ length (drop 1 xs) = omega (arith, length-drop 1 xs) in
      rw (elem_two kp krp (suc (length xs)) at B (T ++ rest) h x y hx hy (λ s. lone_zero xs (omega arith)) t.0, l)
      (ih (at + length H) (done ++ take (suc (length xs)) (x ∷ y ∷ [])) rest t.1
      ∙ fin at H T _ _ (append_assoc done _ _ ∙ ap (λ (r : List ℕ). done ++ r) (two_front x xs)))

  back_full :
      (rlgr3 : Bool) → 8 ≤ kp → (x : ℕ) (xs : List ℕ) (T : List Bool) → min (2 ^ (kp / 8)) (length (x ∷ xs)) ≤ zeros_of (x ∷ xs) →
      Back f rlgr3 (raised 4 kp) krp (drop (2 ^ (kp / 8)) (x ∷ xs)) T B → Back (suc f) rlgr3 kp krp (x ∷ xs) (false ∷ T) B
  unfolding walk
  back_full rlgr3 h x xs T hz ih at done rest e =
      let n = 2 ^ (kp / 8) in
      let t = turn (false ∷ []) T rest at B e in
      let l : suc (length xs) - n ≡ length (drop n (x ∷ xs)) = omega (arith, length-drop n (x ∷ xs)) in
      let p : replicate (min n (suc (length xs))) 0 ++ drop n (x ∷ xs) ≡ x ∷ xs =
      rw (drop_min n (x ∷ xs)) (zeros_front (min n (suc (length xs))) (x ∷ xs) hz) in
      rw (elem_full kp krp (suc (length xs)) at B (T ++ rest) rlgr3 h t.0, l)
      (ih (at + 1) (done ++ replicate (min n (suc (length xs))) 0) rest t.1
      ∙ fin at (false ∷ []) T _ _ (append_assoc done _ _ ∙ ap (λ (r : List ℕ). done ++ r) p))

  back_run :
      (rlgr3 : Bool) → 8 ≤ kp → (x : ℕ) (xs : List ℕ) (T : List Bool) (z v : ℕ) → zeros_of (x ∷ xs) ≡ z → get_or (x ∷ xs) z 0 ≡ v → z < 2 ^ (kp / 8) →
      z < length (x ∷ xs) → v ≤ 65534 → Back f rlgr3 (kp - 6) (kr_after krp ((v - 1) / 2)) (drop (suc z) (x ∷ xs)) T B →
      Back (suc f) rlgr3 kp krp (x ∷ xs) (run_bits kp krp z v ++ T) B
  unfolding walk
  back_run rlgr3 h x xs T z v ez ev hz hl hv ih at done rest e =
      let H = run_bits kp krp z v in
      let t = turn H T rest at B e in
      let v0 : 0 < v = rw (← ev, ← ez) (zeros_next (x ∷ xs) (omega arith)) in
      let l : suc (length xs) - (z + 1) ≡ length (drop (suc z) (x ∷ xs)) = omega (arith, length-drop (suc z) (x ∷ xs)) in
      rw (elem_run kp krp (suc (length xs)) at B (T ++ rest) rlgr3 h z v hz hl v0 hv t.0, l)
      (ih (at + length H) (done ++ (replicate z 0 ++ (v ∷ []))) rest t.1
      ∙ fin at H T _ _ (append_assoc done _ _ ∙ ap (λ (r : List ℕ). done ++ r) (run_front (x ∷ xs) z v ez ev hl)))

pub range_drop : (n : ℕ) (xs : List ℕ) → InRange xs → InRange (drop n xs)
range_drop n xs r i = rw (get_or-drop n xs i 0) (r (n + i))

module _ (f kp krp x : ℕ) (xs : List ℕ) (B : List Bool) (h : length xs ≤ f) (r : InRange (x ∷ xs)) where
  code_low :
      (rlgr3 : Bool) → kp < 8 → ((kp' krp' : ℕ) (ys : List ℕ) → length ys ≤ f → InRange ys → Back f rlgr3 kp' krp' ys (code_f f rlgr3 kp' krp' ys) B) →
      Back (suc f) rlgr3 kp krp (x ∷ xs) (code_f (suc f) rlgr3 kp krp (x ∷ xs)) B
  code_low true k ih =
      rw (code_f_twin f kp krp x xs k)
      (back_two f kp krp B k x xs _ (r 0) (r 1) (ih _ _ (drop 1 xs) (omega (arith, length-drop 1 xs)) (range_drop 1 xs (λ i. r (suc i)))))
  code_low false k ih = rw (code_f_single f kp krp x xs k) (back_one f kp krp B k x xs _ (r 0) (ih _ _ xs h (λ i. r (suc i))))

  code_step :
      (rlgr3 : Bool) → ((kp' krp' : ℕ) (ys : List ℕ) → length ys ≤ f → InRange ys → Back f rlgr3 kp' krp' ys (code_f f rlgr3 kp' krp' ys) B) →
      Back (suc f) rlgr3 kp krp (x ∷ xs) (code_f (suc f) rlgr3 kp krp (x ∷ xs)) B
  code_step rlgr3 ih = go (ltb kp 8) refl (leb (min n (length (x ∷ xs))) z) refl
    where
      n : ℕ
      n = 2 ^ (kp / 8)

      z : ℕ
      z = zeros_of (x ∷ xs)

      v : ℕ
      v = get_or (x ∷ xs) z 0

      go :
          (b : Bool) → ltb kp 8 ≡ b → (c : Bool) → leb (min n (length (x ∷ xs))) z ≡ c →
          Back (suc f) rlgr3 kp krp (x ∷ xs) (code_f (suc f) rlgr3 kp krp (x ∷ xs)) B
      go true k c e = code_low rlgr3 (ltb-true kp 8 k) ih
      go false k true e =
          let m : min n (length (x ∷ xs)) ≤ z = leb-true (min n (length (x ∷ xs))) z e in
          let k' : 8 ≤ kp = ltb-false kp 8 k in
          rw (code_f_full f rlgr3 kp krp k' (x ∷ xs) (omega arith) m)
          (back_full f kp krp B rlgr3 k' x xs (code_f f rlgr3 (raised 4 kp) krp (drop n (x ∷ xs))) m
          (ih (raised 4 kp) krp (drop n (x ∷ xs)) (omega (arith, length-drop n (x ∷ xs), pow_pos (kp / 8))) (range_drop n (x ∷ xs) r)))
      go false k false e =
          let m : z < min n (length (x ∷ xs)) = leb-false (min n (length (x ∷ xs))) z e in
          let k' : 8 ≤ kp = ltb-false kp 8 k in
          rw (code_f_rest f rlgr3 kp krp k' (x ∷ xs) z v refl refl (omega arith) (omega arith))
          (back_run f kp krp B rlgr3 k' x xs (code_f f rlgr3 (kp - 6) (kr_after krp ((v - 1) / 2)) (drop (suc z) (x ∷ xs))) z v refl refl (omega arith)
          (omega arith) (r z)
          (ih (kp - 6) (kr_after krp ((v - 1) / 2)) (drop (suc z) (x ∷ xs)) (omega (arith, length-drop (suc z) (x ∷ xs)))
          (range_drop (suc z) (x ∷ xs) r)))

-- the list xs in code is read back, whatever stands after it
pub code_read :
    (f : ℕ) (rlgr3 : Bool) (kp krp : ℕ) (xs : List ℕ) (B : List Bool) → length xs ≤ f → InRange xs → Back f rlgr3 kp krp xs (code_f f rlgr3 kp krp xs) B
unfolding code_f walk
code_read zero rlgr3 kp krp [] B h r = λ at done rest e. ap₂ whole (sym (append-nil done)) (omega arith)
code_read zero rlgr3 kp krp (x ∷ xs) B h r = absurd (omega arith)
code_read (suc f) rlgr3 kp krp [] B h r = λ at done rest e. ap₂ whole (sym (append-nil done)) (omega arith)
code_read (suc f) rlgr3 kp krp (x ∷ xs) B h r = code_step f kp krp x xs B (omega arith) r rlgr3 (λ kp' krp' ys l s. code_read f rlgr3 kp' krp' ys B l s)
