-- Laws of the component writer: the range of a list, the bytes at a place, and one law for each answer.
-- Assumes nothing.
use Prim.Native.Nat.{ℕ, zero, suc, ◌+◌, ◌-◌, ◌/◌, ◌≤◌, ◌<◌, min}
use Rattle.std.specs.Prelude.{◌≡◌, refl, Bool, true, false, leb, eqb, ℤ, pos, nat_abs, take, get_or, replicate, Result, Ok, Err}
use Rattle.std.proofs.Math.Path.{sym, ap, ap₂}
use Rattle.std.proofs.Common.{subst, ◌∙◌, arith, le-leb, leb-true, eq-eqb, eqb-true, take-append-drop, drop-drop}
use mathlib.Core.List.{List, [], ◌∷◌, ◌++◌, map, append_assoc, append-nil}
use Rattle.std.proofs.lemmas.Bool.{lt-leb}
use Rattle.std.proofs.Math.ListN.{length, drop, length-append, length-take}
use Rattle.std.proofs.Math.Seq.{length-take-le}
use Rattle.whole.specs.Among.{among, Among}
use Rattle.whole.specs.Row.{◌⇒◌∣◌}
use Rattle.whole.specs.laws.Among.{numbers, each, among_most}
use Rattle.whole.specs.laws.Row.{held, passes, fails, stops, goes_on, both}
use Rattle.wire.specs.Le.{patch}
use Rattle.wire.specs.laws.Le.{patch_front}
use Rattle.wire.specs.Mode.{is_mode}
use Rattle.wire.specs.Wrote.{Wrote}
use Rattle.wire.specs.laws.Wrote.{done}
use Rattle.wire.specs.Refusal.{refusal_number, refusal_of}
use Rattle.wire.specs.laws.Refusal.{number_back, number_pos}
use Rattle.wire.specs.declared.Refusal.{Refusal}
use Rattle.wire.specs.declared.Refusal.TheVariants.{Range, TooBig}
use Rattle.bits.specs.Bits.{bits_of, num_bits}
use Rattle.bits.specs.Bytes.{Written}
use Rattle.bits.specs.laws.Bytes.{Bytes, written_once}
use Rattle.bits.specs.Pen.{pen_bits, Ready, Put, Closed}
use Rattle.bits.specs.laws.Pen.{bits_of_append}
use Rattle.bits.specs.declared.Pen.{Pen}
use Rattle.code.specs.Code.{InRange}
use Rattle.code.specs.laws.There.{drop_min}
use Rattle.code.specs.Fold.{fold_z}
use Rattle.code.specs.laws.Fold.{range_fold}
use Rattle.code.specs.OneCode.{code}
use Rattle.code_write.specs.laws.Pack.{packed_length, packed_bytes, packed_written, packed_once}
use Rattle.code_write.specs.Write.{bytes_of, all_in_range, code_fault, ask_fault, write_fault, Measures, sized_of}

-- ---- the bytes of a component: the only ones that hold its code, filled up

module _ (mode : ℕ) (zs : List ℤ) where
  pub bytes_written : Written (bytes_of mode zs) (code mode zs)
  unfolding bytes_of
  bytes_written = packed_written (code mode zs)

  pub bytes_bytes : Bytes (bytes_of mode zs)
  unfolding bytes_of
  bytes_bytes = packed_bytes (code mode zs)

  pub bytes_length : length (bytes_of mode zs) ≡ (length (code mode zs) + 7) / 8
  unfolding bytes_of
  bytes_length = packed_length (code mode zs)

  pub bytes_only : (s : List ℕ) → Bytes s → Written s (code mode zs) → s ≡ bytes_of mode zs
  unfolding bytes_of
  bytes_only s h w = packed_once s (code mode zs) h w

-- ---- the range

true_false : (true ≡ false → ⊥)
true_false e = let z : ◌≡◌ {A = ℕ} 0 1 = cc in omega arith

pub range_is : (zs : List ℤ) → all_in_range zs ≡ true → (i : ℕ) → nat_abs (get_or zs i (pos 0)) ≤ 32767
unfolding all_in_range
range_is [] e i = omega arith
range_is (z ∷ zs) e zero = leb-true (nat_abs z) 32767 (held (leb (nat_abs z) 32767) false (all_in_range zs) true true_false (sym e)).0
range_is (z ∷ zs) e (suc i) = range_is zs (sym (held (leb (nat_abs z) 32767) false (all_in_range zs) true true_false (sym e)).1) i

pub is_range : (zs : List ℤ) → ((i : ℕ) → nat_abs (get_or zs i (pos 0)) ≤ 32767) → all_in_range zs ≡ true
unfolding all_in_range
is_range [] h = refl
is_range (z ∷ zs) h = sym (passes _ _ _ _ (le-leb (nat_abs z) 32767 (h 0)) (sym (is_range zs (λ i. h (suc i)))))

pub range_folded : (zs : List ℤ) → all_in_range zs ≡ true → InRange (map fold_z zs)
range_folded zs e = range_fold zs (range_is zs e)

-- ---- the bytes at a place: the pen starts there, and the last byte is filled up

take-bytes : (n : ℕ) (s : List ℕ) → Bytes s → Bytes (take n s)
take-bytes zero s h i = omega arith
take-bytes (suc n) [] h i = omega arith
take-bytes (suc n) (x ∷ s) h zero = h 0
take-bytes (suc n) (x ∷ s) h (suc i) = take-bytes n s (λ j. h (suc j)) i

append_bytes : (s t : List ℕ) → Bytes s → Bytes t → Bytes (s ++ t)
append_bytes [] t h k i = k i
append_bytes (x ∷ s) t h k zero = h 0
append_bytes (x ∷ s) t h k (suc i) = append_bytes s t (λ j. h (suc j)) k i

start_bits : (o : List ℕ) (at : ℕ) → pen_bits o (record { at = at; acc = 0; n = 0 }) ≡ bits_of (take at o)
unfolding pen_bits num_bits
start_bits o at = append-nil (bits_of (take at o))

later : (i j : ℕ) (a b : List ℕ) → i ≤ j → drop i a ≡ drop i b → drop j a ≡ drop j b
later i j a b h e =
    let d : i + (j - i) ≡ j = omega arith in
    rw (← d, ← drop-drop (j - i) i a, ← drop-drop (j - i) i b, e)

behind_written : (front B o : List ℕ) (C : List Bool) → Written B C → Written (front ++ B) (bits_of front ++ C)
behind_written front B o C w = record {
  pad = w.pad;
  few = w.few;
  bits = bits_of_append front B ∙ ap (λ (l : List Bool). bits_of front ++ l) w.bits ∙ sym (append_assoc (bits_of front) C (replicate w.pad false));
}

module _ (mode : ℕ) (zs : List ℤ) (o : List ℕ) (at : ℕ) (fits : at + length (bytes_of mode zs) ≤ length o) where
  pub put_ready : Ready (length o) (record { at = at; acc = 0; n = 0 }) (length (code mode zs))
  put_ready = record { few = omega arith; small = omega arith; room = omega (arith, bytes_length mode zs) }

  module _ (o1 : List ℕ) (q : Pen) (put : Put o (record { at = at; acc = 0; n = 0 }) o1 q (code mode zs)) where
    pub finish_ready : Ready (length o1) q 0
    finish_ready = record { few = put.few; small = put.small; room = omega (arith, put.place, put.long, bytes_length mode zs) }

    -- the place past the bytes, by the pen
    pub put-end : q.at + (q.n + 7) / 8 ≡ at + length (bytes_of mode zs)
    put-end = omega (arith, put.place, put.few, bytes_length mode zs)

    module _ (o2 : List ℕ) (r : ℕ) (closed : Closed o1 q o2 r) (bo : Bytes o) (b2 : Bytes o2) where
      front : take r o2 ≡ take at o ++ bytes_of mode zs
      front =
          let e : pen_bits o1 q ≡ bits_of (take at o) ++ code mode zs = put.bits ∙ ap (λ (l : List Bool). l ++ code mode zs) (start_bits o at) in
          written_once (take r o2) (take at o ++ bytes_of mode zs) (bits_of (take at o) ++ code mode zs)
          (take-bytes r o2 b2) (append_bytes (take at o) (bytes_of mode zs) (take-bytes at o bo) (bytes_bytes mode zs))
          (subst (Written (take r o2)) e closed.written) (behind_written (take at o) (bytes_of mode zs) o (code mode zs) (bytes_written mode zs))

      pub put_closed : o2 ≡ patch o at (bytes_of mode zs)
      unfolding patch
      put_closed =
          let B = bytes_of mode zs in
          let long : length o2 ≡ length o = closed.long ∙ put.long in
          let m : min r (length o) ≡ at + length B =
          omega (arith, long, ap length front, length-take r o2, length-append (take at o) B, length-take-le at o (omega arith)) in
          let past : drop r o2 ≡ drop r o = closed.rest ∙ later q.at r o1 o (omega (arith, m, put.place, bytes_length mode zs)) put.rest in
          let tail : drop r o2 ≡ drop (at + length B) o = past ∙ drop_min r o ∙ ap (λ (k : ℕ). drop k o) m in
          sym (take-append-drop r o2) ∙ ap₂ (λ (x y : List ℕ). x ++ y) front tail ∙ append_assoc (take at o) B (drop (at + length B) o)

-- ---- what was judged, in the code's forms

-- a component, measured
module _ (mode : ℕ) (zs : List ℤ) where
  by_fault : (n : ℕ) → n ≡ code_fault mode zs → sized_of n (length (bytes_of mode zs)) ≡ sized_of (code_fault mode zs) (length (bytes_of mode zs))
  by_fault n e = ap (λ (f : ℕ). sized_of f (length (bytes_of mode zs))) e

  pub measure_9 : all_in_range zs ≡ false → Err Range ≡ sized_of (code_fault mode zs) (length (bytes_of mode zs))
  unfolding code_fault sized_of refusal_of ◌⇒◌∣◌
  measure_9 e = by_fault 9 (fails _ _ _ _ e refl)

  module _ (size : ℕ) (e : all_in_range zs ≡ true) (s : size ≡ length (bytes_of mode zs)) where
    pub measure_6 : 65535 < size → Err TooBig ≡ sized_of (code_fault mode zs) (length (bytes_of mode zs))
    unfolding code_fault sized_of refusal_of ◌⇒◌∣◌
    measure_6 h = by_fault 6 (passes _ _ _ _ e (fails _ _ _ _ (lt-leb (length (bytes_of mode zs)) 65535 (omega arith)) refl))

    pub measure_0 : size ≤ 65535 → Ok size ≡ sized_of (code_fault mode zs) (length (bytes_of mode zs))
    unfolding code_fault sized_of
    measure_0 h = rw s (by_fault 0 (passes _ _ _ _ e (passes _ _ _ _ (le-leb (length (bytes_of mode zs)) 65535 (omega (arith, s))) refl)))

-- what is said in one equation, in two
pub sized_measures : (f b : ℕ) (r : Result ℕ Refusal) → f ≤ 13 → r ≡ sized_of f b → Measures f b r
unfolding sized_of
sized_measures zero b r u e = rw e (record { number = refl; size = λ z. refl })
sized_measures (suc n) b r u e =
    let k = number_back (suc n) (omega arith) u in
    rw e (record { number = k; size = λ z. absurd (omega (arith, k, z)) })

-- a component's numbers are of 01's
pub code_among : (mode : ℕ) (zs : List ℤ) → Among (0 ∷ 9 ∷ 6 ∷ []) (code_fault mode zs)
unfolding code_fault among
code_among mode zs = search numbers depth 9

pub code_measures :
    (mode : ℕ) (zs : List ℤ) (r : Result ℕ Refusal) → r ≡ sized_of (code_fault mode zs) (length (bytes_of mode zs)) →
    Measures (code_fault mode zs) (length (bytes_of mode zs)) r
unfolding each
code_measures mode zs r e = sized_measures (code_fault mode zs) (length (bytes_of mode zs)) r (among_most 13 (code_among mode zs) refl) e

-- what a component without a fault has
pub record Fine (mode : ℕ) (zs : List ℤ) : Type 0 where
  pub range : all_in_range zs ≡ true
  pub small : length (bytes_of mode zs) ≤ 65535

pub fine : (mode : ℕ) (zs : List ℤ) → 0 ≡ code_fault mode zs → Fine mode zs
unfolding code_fault
fine mode zs e =
    let a = held (all_in_range zs) 9 _ 0 (λ z. omega arith) e in
    let b = held (leb (length (bytes_of mode zs)) 65535) 6 0 0 (λ z. omega arith) a.1 in
    record { range = a.0; small = leb-true (length (bytes_of mode zs)) 65535 b.0 }

pub is_fine : (mode : ℕ) (zs : List ℤ) → Fine mode zs → 0 ≡ code_fault mode zs
unfolding code_fault
is_fine mode zs f = passes _ _ _ _ f.range (passes _ _ _ _ (le-leb (length (bytes_of mode zs)) 65535 f.small) refl)

-- the mode is one of the two and the list has 4,096 numbers
pub record Called (mode n : ℕ) : Type 0 where
  pub allowed : is_mode mode ≡ true
  pub long : n ≡ 4096

pub called : (mode n : ℕ) → 0 ≡ ask_fault mode n → Called mode n
unfolding ask_fault
called mode n e =
    let a = held (is_mode mode) 5 _ 0 (λ z. omega arith) e in
    let b = held (eqb n 4096) 2 0 0 (λ z. omega arith) a.1 in
    record { allowed = a.0; long = eqb-true n 4096 b.0 }

pub is_called : (mode n : ℕ) → Called mode n → 0 ≡ ask_fault mode n
unfolding ask_fault
is_called mode n c = passes _ _ _ _ c.allowed (passes _ _ _ _ (eq-eqb n 4096 c.long) refl)

-- ---- which numbers the call answers

pub write_among : (mode : ℕ) (zs : List ℤ) (room : ℕ) → Among (0 ∷ 5 ∷ 2 ∷ 9 ∷ 6 ∷ 13 ∷ []) (write_fault mode zs room)
unfolding write_fault ask_fault code_fault among
write_among mode zs room = search numbers depth 9

-- ---- one law for each way out of the judging

module _ (mode : ℕ) (zs : List ℤ) (room : ℕ) where
  pub judge_call : (r : Refusal) → refusal_number r ≡ ask_fault mode (length zs) → refusal_number r ≡ write_fault mode zs room
  unfolding write_fault
  judge_call r e = stops _ _ _ (λ z. number_pos r (e ∙ z)) e

  module _ (c : 0 ≡ ask_fault mode (length zs)) where
    -- a component without a fault that has room
    pub judge_fine : Fine mode zs → length (bytes_of mode zs) ≤ room → 0 ≡ write_fault mode zs room
    unfolding write_fault
    judge_fine f l =
        goes_on _ _ _ (sym c)
        (goes_on _ _ _ (sym (is_fine mode zs f)) (passes _ _ _ _ (le-leb (length (bytes_of mode zs)) room l) refl))

    pub judge_component : (r : Refusal) → Err r ≡ sized_of (code_fault mode zs) (length (bytes_of mode zs)) → refusal_number r ≡ write_fault mode zs room
    unfolding write_fault
    judge_component r q =
        let m = code_measures mode zs (Err r) q in
        goes_on _ _ _ (sym c) (stops _ _ _ (λ y. number_pos r (m.number ∙ y)) m.number)

    module _ (size : ℕ) (q : Ok size ≡ sized_of (code_fault mode zs) (length (bytes_of mode zs))) where
      m : Measures (code_fault mode zs) (length (bytes_of mode zs)) (Ok size)
      m = code_measures mode zs (Ok size) q

      pub judge_room : room < size → 13 ≡ write_fault mode zs room
      unfolding write_fault
      judge_room l =
          let k = m.size refl in
          goes_on _ _ _ (sym c)
          (goes_on _ _ _ (sym m.number) (fails _ _ _ _ (lt-leb (length (bytes_of mode zs)) room (omega arith)) refl))

      pub judge_done : size ≤ room → 0 ≡ write_fault mode zs room
      judge_done l = let k = m.size refl in judge_fine (fine mode zs m.number) (omega arith)

-- ---- what no fault means, and the written bytes

pub record Clear (mode : ℕ) (zs : List ℤ) (room : ℕ) : Type 0 where
  pub asked : Called mode (length zs)
  pub fine : Fine mode zs
  pub fits : length (bytes_of mode zs) ≤ room

pub clear : (mode : ℕ) (zs : List ℤ) (room : ℕ) → 0 ≡ write_fault mode zs room → Clear mode zs room
unfolding write_fault
clear mode zs room e =
    let a = both (ask_fault mode (length zs)) _ e in
    let b = both (code_fault mode zs) _ a.1 in
    let r = held (leb (length (bytes_of mode zs)) room) 13 0 0 (λ z. omega arith) b.1 in
    record { asked = called mode (length zs) a.0; fine = fine mode zs b.0; fits = leb-true (length (bytes_of mode zs)) room r.0 }

pub write_done :
    (mode : ℕ) (zs : List ℤ) (out out' : List ℕ) (k : ℕ) → 0 ≡ write_fault mode zs (length out) → out' ≡ patch out 0 (bytes_of mode zs) →
    k ≡ 0 + length (bytes_of mode zs) → Wrote (write_fault mode zs (length out)) (bytes_of mode zs) out out' (Ok k)
write_done mode zs out out' k f p e = done _ k _ out out' f (e ∙ omega arith) (p ∙ patch_front out (bytes_of mode zs))
