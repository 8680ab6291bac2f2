-- The frame passed on: whether a tidied one is tried, what is written where it is kept, and the call's ways out.
use Prim.Native.Nat.{ℕ, zero, suc, ◌+◌, ◌-◌, ◌≤◌, ◌<◌}
use Rattle.std.specs.Prelude.{◌≡◌, Bool, true, false, eqb, ℤ, pos, take, drop, replicate, Ok, Err}
use Rattle.std.proofs.Math.Path.{refl, ap}
use Rattle.std.proofs.Common.{sym, ◌∙◌, true≢false, arith, take_at, drop-drop, eqb-true, eq-eqb, ne_eqb, le-leb}
use mathlib.Core.List.{List, ◌++◌}
use Rattle.std.proofs.Math.Nat.{zero-add}
use Rattle.std.proofs.Math.ListN.{length}
use Rattle.std.proofs.Math.Seq.{drop-append-add}
use Rattle.std.proofs.lemmas.Bool.{lt-leb}
use Rattle.whole.specs.Row.{◌!◌⨾◌, ◌⇒◌∣◌}
use Rattle.whole.specs.laws.Row.{passes, fails}
use Rattle.wire.specs.Le.{patch}
use Rattle.wire.specs.Refusal.{refusal_number}
use Rattle.wire.specs.laws.Refusal.{number_pos}
use Rattle.wire.specs.declared.Refusal.{Refusal}
use Rattle.wire.specs.Wrote.{length_said, out_left}
use Rattle.wire.specs.laws.Le.{patch_front}
use Rattle.session.specs.Header.{ready}
use Rattle.session.specs.declared.Session.{Session}
use Rattle.frame_layout.specs.Reader.{data_of, tile_count, set_place}
use Rattle.tidy_code.specs.Sent.{is_sender}
use Rattle.tidy.specs.Tidy.{fault_for, layout_for, is_tidied, tidy_frame, frame_tidied, cut_tiles, codes_cut, tidy_fault, cut_said, list_left, FrameTidied}
use Rattle.tidy.specs.Put.{Puts, Laid, is_due}
use Rattle.tidy.specs.laws.Layout.{parts_good, laid}
use Rattle.tidy.specs.declared.frames.Put.{Put}

-- ---- is it tried?

not_due : (a b c d : Bool) → (a ! false ⨾ b ⇒ false ∣ c) ≡ false → (a ! false ⨾ b ⇒ false ∣ c ! false ⨾ d) ≡ false
unfolding ◌!◌⨾◌ ◌⇒◌∣◌
not_due false b c d e = refl
not_due true true c d e = refl
not_due true false false d e = refl
not_due true false true d e = absurd (true≢false e)

then_due : (a b c d : Bool) → (a ! false ⨾ b ⇒ false ∣ c) ≡ true → (a ≡ true) × ((c ≡ true) × ((a ! false ⨾ b ⇒ false ∣ c ! false ⨾ d) ≡ d))
unfolding ◌!◌⨾◌ ◌⇒◌∣◌
then_due false b c d e = absurd (true≢false (sym e))
then_due true true c d e = absurd (true≢false (sym e))
then_due true false false d e = absurd (true≢false (sym e))
then_due true false true d e = (refl, (refl, refl))

module _ (sd : ℕ) (s : Session) (m : List ℕ) where
  pub due_not : is_due s m ≡ false → is_tidied sd s m ≡ false
  unfolding is_due is_tidied
  due_not e = not_due (ready s) (eqb (fault_for s m) 0) (eqb (layout_for s m) 0) _ e

  module _ (e : is_due s m ≡ true) where
    due_parts : (ready s ≡ true) × ((eqb (layout_for s m) 0 ≡ true) × (is_tidied sd s m ≡ eqb (fault_for s (frame_tidied sd s.mode m)) 0))
    unfolding is_due is_tidied
    due_parts = then_due (ready s) (eqb (fault_for s m) 0) (eqb (layout_for s m) 0) (eqb (fault_for s (frame_tidied sd s.mode m)) 0) e

    pub due_ready : ready s ≡ true
    due_ready = due_parts.0

    pub due_tested : is_tidied sd s m ≡ eqb (fault_for s (frame_tidied sd s.mode m)) 0
    due_tested = due_parts.1.1

    pub due_laid : Laid m
    unfolding layout_for
    due_laid =
        laid (λ (et : ℕ) (five code : List ℕ). 0) s.width s.height s.mode m
        (parts_good (λ (et : ℕ) (five code : List ℕ). 0) s.width s.height s.mode m (sym (eqb-true (layout_for s m) 0 due_parts.1.0)))

    -- by the panel's number of what was written
    module _ (k : ℕ) (x : List ℕ) (q : k ≡ fault_for s x) (w : x ≡ frame_tidied sd s.mode m) where
      pub tested_yes : k ≡ 0 → is_tidied sd s m ≡ true
      tested_yes z = due_tested ∙ eq-eqb _ 0 (sym (q ∙ ap (fault_for s) w) ∙ z)

      pub tested_no : (k ≡ 0 → ⊥) → is_tidied sd s m ≡ false
      tested_no z = due_tested ∙ ne_eqb _ 0 (λ e. z (q ∙ (ap (fault_for s) w ∙ e)))

-- ---- what is written

-- what was put at the front is there
pub front_there : (x xs ys : List ℕ) (n : ℕ) → x ≡ patch xs 0 ys → n ≡ 0 + length ys → take n x ≡ ys
unfolding patch
front_there x xs ys n e l = ap (take n) e ∙ take_at ys _ n (sym (l ∙ zero-add (length ys)))

-- a longer front over a shorter one
patch_over : (x xs a b : List ℕ) → x ≡ patch xs 0 a → length a ≤ length b → patch x 0 b ≡ patch xs 0 b
unfolding patch
patch_over x xs a b e l =
    let n = length b - length a in
    let k : 0 + length b ≡ length a + n = omega arith in
    let j : 0 + length a + n ≡ length a + n = omega arith in
    ap (λ (z : List ℕ). b ++ z) (rw (e, k) (drop-append-add a _ n ∙ (drop-drop n (0 + length a) xs ∙ ap (λ (i : ℕ). drop i xs) j)))

module _ (sd : ℕ) (s : Session) (m : List ℕ) where
  same_kept : is_tidied sd s m ≡ false → (m ≡ tidy_frame sd s m) × (0 ≡ codes_cut sd s m)
  unfolding tidy_frame codes_cut
  same_kept e = (fails _ _ _ _ e refl, fails _ _ _ _ e refl)

  pub pass_kept : (o o' : List ℕ) (r : Put) → is_tidied sd s m ≡ false → Puts m 0 0 o o' r → Puts (tidy_frame sd s m) (codes_cut sd s m) 0 o o' r
  pass_kept o o' r e p =
      let k = same_kept e in
      record {
        left = p.left ∙ ap (patch o 0) k.0;
        behind = p.behind ∙ ap (λ (z : List ℕ). 0 + length z) k.0;
        counts = p.counts ∙ k.1;
      }

  -- kept over a tidied one that is still refused
  pub pass_back : (o o1 o2 F : List ℕ) (r : Put) → is_tidied sd s m ≡ false → o1 ≡ patch o 0 F → length F ≤ length m → Puts m 0 0 o1 o2 r →
      Puts (tidy_frame sd s m) (codes_cut sd s m) 0 o o2 r
  pass_back o o1 o2 F r e q l p = pass_kept o o2 r e (record { left = p.left ∙ patch_over o1 o F m q l; behind = p.behind; counts = p.counts })

  pub pass_tidied : (o o' : List ℕ) (r : Put) → is_tidied sd s m ≡ true →
      Puts (frame_tidied sd s.mode m) (cut_tiles sd s.mode (data_of m (set_place m)) (tile_count m (set_place m)) 0) 0 o o' r →
      Puts (tidy_frame sd s m) (codes_cut sd s m) 0 o o' r
  unfolding tidy_frame codes_cut
  pass_tidied o o' r e p =
      let k : frame_tidied sd s.mode m ≡ tidy_frame sd s m = passes _ _ _ _ e refl in
      record {
        left = p.left ∙ ap (patch o 0) k;
        behind = p.behind ∙ ap (λ (z : List ℕ). 0 + length z) k;
        counts = p.counts ∙ passes _ _ _ _ e refl;
      }

-- ---- the call

module _ (sd list message room : ℕ) where
  pub fault_5 : is_sender sd ≡ false → 5 ≡ tidy_fault sd list message room
  unfolding tidy_fault
  fault_5 b = fails _ _ _ _ b refl

  pub fault_2 : is_sender sd ≡ true → (list ≡ 4096 → ⊥) → 2 ≡ tidy_fault sd list message room
  unfolding tidy_fault
  fault_2 b h = passes _ _ _ _ b (fails _ _ _ _ (ne_eqb list 4096 h) refl)

  pub fault_13 : is_sender sd ≡ true → list ≡ 4096 → room < message → 13 ≡ tidy_fault sd list message room
  unfolding tidy_fault
  fault_13 b e h = passes _ _ _ _ b (passes _ _ _ _ (eq-eqb list 4096 e) (fails _ _ _ _ (lt-leb message room h) refl))

  pub fault_none : is_sender sd ≡ true → list ≡ 4096 → message ≤ room → 0 ≡ tidy_fault sd list message room
  unfolding tidy_fault
  fault_none b e h = passes _ _ _ _ b (passes _ _ _ _ (eq-eqb list 4096 e) (passes _ _ _ _ (le-leb message room h) refl))

module _ (sd : ℕ) (s : Session) (m out : List ℕ) (list : List ℤ) where
  refused_by : (f x : ℕ) → x ≡ f → (x ≡ 0 → ⊥) → (0 ≡ length_said f (tidy_frame sd s m)) ×
      ((0 ≡ cut_said f (codes_cut sd s m)) × ((out ≡ out_left f (tidy_frame sd s m) out) × (list ≡ list_left f list)))
  unfolding length_said cut_said out_left list_left
  refused_by zero x e h = absurd (h e)
  refused_by (suc f) x e h = (refl, (refl, (refl, refl)))

  pub call_refused : (e : Refusal) → refusal_number e ≡ tidy_fault sd (length list) (length m) (length out) → FrameTidied sd s m list list out out (Err e)
  call_refused e h =
      let k = refused_by (tidy_fault sd (length list) (length m) (length out)) (refusal_number e) h (number_pos e) in
      record { number = h; size = k.0; cut = k.1.0; left = k.1.1.0; work = k.1.1.1 }

  done_by : (f n k : ℕ) (o : List ℕ) (l : List ℤ) → 0 ≡ f → n ≡ 0 + length (tidy_frame sd s m) → k ≡ codes_cut sd s m → o ≡ patch out 0
      (tidy_frame sd s m) → l ≡ replicate 4096 (pos 0) →
      (n ≡ length_said f (tidy_frame sd s m)) × ((k ≡ cut_said f (codes_cut sd s m)) × ((o ≡ out_left f (tidy_frame sd s m) out) × (l ≡ list_left f list)))
  unfolding length_said cut_said out_left list_left
  done_by zero n k o l e a b c d = (a ∙ zero-add (length (tidy_frame sd s m)), (b, (c ∙ patch_front out (tidy_frame sd s m), d)))
  done_by (suc f) n k o l e a b c d = absurd (omega arith)

  pub call_done : (p : Put) (out' : List ℕ) (list' : List ℤ) → 0 ≡ tidy_fault sd (length list) (length m) (length out) →
      Puts (tidy_frame sd s m) (codes_cut sd s m) 0 out out' p → list' ≡ replicate 4096 (pos 0) →
      FrameTidied sd s m list list' out out' (Ok (record { size = p.to; cut = p.cut }))
  call_done p out' list' e q w =
      let k = done_by (tidy_fault sd (length list) (length m) (length out)) p.to p.cut out' list' e q.behind q.counts q.left w in
      record { number = e; size = k.0; cut = k.1.0; left = k.1.1.0; work = k.1.1.1 }
