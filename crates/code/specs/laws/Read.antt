-- Laws of the component reader: its tail, its ways out, and what an answer 0 gives.
-- (01 is this project's scope document, 02 its change requests, 001 is MS-RDPRFX: README, "What 01 is".)
use Rattle.std.specs.Prelude.{Result, Ok, Err}
use Rattle.std.specs.Prelude.{Option, None}
use Rattle.std.specs.Prelude.{ℕ, zero, suc, ◌+◌, ◌*◌, ◌-◌, ◌≤◌, ◌≡◌, Bool, true, false, ◌&&◌, List, [], ◌∷◌, map, leb, eqb, ℤ, pos, length, drop, get_or}
use Rattle.std.specs.Prelude.{replicate}
use Rattle.std.proofs.Math.Path.{refl, sym, ap}
use Rattle.std.proofs.Common.{subst, ◌∙◌, arith, lt-ltb, le-ltb, eqb-true, leb-true, eq-eqb, ne_eqb, length-drop, length-append}
use Rattle.std.proofs.lemmas.List.{length-map}
use Rattle.std.proofs.Math.ListN.{get_or-map}
use Rattle.whole.specs.laws.Near.{Near}
use Rattle.whole.specs.laws.Tab.{AllNear}
use Rattle.whole.specs.Row.{◌!◌⨾◌}
use Rattle.whole.specs.laws.Row.{held, passes, fails}
use Rattle.bits.specs.Bits.{got, bits_of, num_of, val}
use Rattle.bits.specs.laws.Bit.{length_bits_of, got_v}
use Rattle.wire.specs.Mode.{is_mode}
use Rattle.code.specs.Fold.{unfold_z, unfold_by}
use Rattle.code.specs.laws.Fold.{fold_unfold, fold_near}
use Rattle.code.specs.Code.{code_of, InRange}
use Rattle.code.specs.ReadList.{Walked, whole, bad, read_list}
use Rattle.code.specs.laws.List.{taken, Taken}
use Rattle.wire.specs.declared.Refusal.{Refusal}
use Rattle.wire.specs.Refusal.{refusal_number, refusal_of}
use Rattle.wire.specs.laws.Refusal.{refusal_back, number_pos}
use Rattle.code.specs.Fill.{Fills}
use Rattle.code.specs.Read.{reading_number, reading_bits, no_ones, clean, end_reading, end_list, code_reading, code_list, shell_fault, after_shell, reading}
use Rattle.code.specs.Read.{read_fault, read_bits, decoded, read_into, CodeRead, ComponentRead}
use Rattle.code.specs.declared.read.Reading.{Reading}
use Rattle.code.specs.declared.read.Reading.TheVariants.{Done, Tail, Refused}

-- ---- the tail

and_false : (b : Bool) → (b && false) ≡ false
and_false true = refl
and_false false = refl

-- the number that the last bits make is 0 exactly if none of them is 1
ones_num : (k acc at : ℕ) (bs : List Bool) (v next : ℕ) → length bs ≡ k → num_of k acc at bs ≡ got v next → (eqb acc 0 && no_ones bs) ≡ eqb v 0
unfolding num_of no_ones
ones_num zero acc at [] v next l e = go acc ∙ ap (λ (n : ℕ). eqb n 0) (got_v e)
  where
    go : (n : ℕ) → (eqb n 0 && true) ≡ eqb n 0
    go zero = refl
    go (suc n) = rw (ne_eqb (suc n) 0 (λ q. omega arith))
ones_num zero acc at (b ∷ bs) v next l e = absurd (omega arith)
ones_num (suc k) acc at [] v next l e = absurd (omega arith)
ones_num (suc k) acc at (true ∷ bs) v next l e = and_false (eqb acc 0) ∙ sym (ap (λ (b : Bool). b && no_ones bs) (ne_eqb (acc * 2 + 1) 0 (λ q. omega arith)))
    ∙ ones_num k (acc * 2 + 1) (at + 1) bs v next (omega arith) e
ones_num (suc k) zero at (false ∷ bs) v next l e = ones_num k 0 (at + 1) bs v next (omega arith) e
ones_num (suc k) (suc acc) at (false ∷ bs) v next l e = ap (λ (b : Bool). b && no_ones bs) (ne_eqb (suc acc) 0 (λ q. omega arith))
    ∙ sym (ap (λ (b : Bool). b && no_ones bs) (ne_eqb (suc acc * 2 + 0) 0 (λ q. omega arith))) ∙ ones_num k (suc acc * 2 + 0) (at + 1) bs v next (omega arith) e

num_all : (k acc at : ℕ) (bs : List Bool) → length bs ≡ k → num_of k acc at bs ≡ None → ⊥
unfolding num_of
num_all zero acc at bs l e = let z : ◌≡◌ {A = ℕ} 0 1 = cc in omega arith
num_all (suc k) acc at [] l e = omega arith
num_all (suc k) acc at (b ∷ bs) l e = num_all k (acc * 2 + val b) (at + 1) bs (omega arith) e

module _ (s : List ℕ) (at : ℕ) (h : at ≤ length s * 8) where
  left_is : length (drop at (bits_of s)) ≡ length s * 8 - at
  left_is = omega (arith, length-drop at (bits_of s), length_bits_of s)

  pub tail_long : 8 ≤ length s * 8 - at → false ≡ clean (drop at (bits_of s))
  unfolding clean ◌!◌⨾◌
  tail_long l = rw (le-ltb (length (drop at (bits_of s))) 8 (omega (arith, left_is)))

  pub tail_cut : (r : Option (ℕ × ℕ)) → r ≡ num_of (length s * 8 - at) 0 at (drop at (bits_of s)) → r ≡ None → false ≡ clean (drop at (bits_of s))
  tail_cut r e c = absurd (num_all (length s * 8 - at) 0 at (drop at (bits_of s)) left_is (sym e ∙ c))

  pub tail_got : (r : Option (ℕ × ℕ)) (v next : ℕ) → (8 ≤ length s * 8 - at → ⊥) → r ≡ num_of (length s * 8 - at) 0 at (drop at (bits_of s)) → r ≡ got v next →
      eqb v 0 ≡ clean (drop at (bits_of s))
  unfolding clean ◌!◌⨾◌
  tail_got r v next l e g =
      rw (lt-ltb (length (drop at (bits_of s))) 8 (omega (arith, left_is)))
      (sym (ones_num (length s * 8 - at) 0 at (drop at (bits_of s)) v next left_is (sym e ∙ g)))

-- ---- a code and its tail, by what filling said

filled_bad : (w : Walked) (out : List ℤ) (f : Result ℕ Refusal) (q : Refusal) → Fills w out f → f ≡ Err q → w ≡ bad q
filled_bad (whole xs at) out f q h g = let z : ◌≡◌ {A = ℕ} 0 1 = cc h.1 in absurd (omega arith)
filled_bad (bad m) out f q h g = cc

filled_whole : (w : Walked) (out : List ℤ) (f : Result ℕ Refusal) (at : ℕ) → Fills w out f → f ≡ Ok at →
    (xs : List ℕ) × (w ≡ whole xs at) × (out ≡ map unfold_z xs)
filled_whole (whole xs a) out f at h g = (xs, cc h.1, h.0)
filled_whole (bad m) out f at h g = let z : ◌≡◌ {A = ℕ} 0 1 = cc in absurd (omega arith)

refusal_some : (q : Refusal) → 0 ≡ refusal_number q → ⊥
refusal_some q e = number_pos q (sym e)

module _ (rlgr3 : Bool) (s : List ℕ) (out : List ℤ) (f : Result ℕ Refusal) (h : Fills (read_list rlgr3 4096 (bits_of s)) out f) where
  bad_is : (q : Refusal) → f ≡ Err q → read_list rlgr3 4096 (bits_of s) ≡ bad q
  bad_is q g = filled_bad (read_list rlgr3 4096 (bits_of s)) out f q h g

  whole_is : (at : ℕ) → f ≡ Ok at → (xs : List ℕ) × (read_list rlgr3 4096 (bits_of s) ≡ whole xs at) × (out ≡ map unfold_z xs)
  whole_is at g = filled_whole (read_list rlgr3 4096 (bits_of s)) out f at h g

  pub whole_fits : (at : ℕ) → f ≡ Ok at → at ≤ length s * 8
  whole_fits at g =
      let w = whole_is at g in
      let t = taken rlgr3 4096 (bits_of s) w.0 at w.1 in
      omega (arith, ap length t.bits, t.place, length-append (code_of rlgr3 w.0) (drop at (bits_of s)), length_bits_of s)

  pub code_bad : (q : Refusal) → f ≡ Err q → CodeRead rlgr3 s out (Refused q)
  unfolding code_reading end_reading reading_number
  code_bad q g = record { answer = sym (ap (end_reading (bits_of s)) (bad_is q g)); list = λ z. absurd (refusal_some q (sym z)) }

  pub code_done : (at : ℕ) → f ≡ Ok at → clean (drop at (bits_of s)) ≡ true → CodeRead rlgr3 s out (Done at)
  unfolding code_reading code_list end_reading end_list
  code_done at g p =
      let w = whole_is at g in
      record {
        answer = passes _ _ _ _ p refl ∙ sym (ap (end_reading (bits_of s)) w.1);
        list = λ z. passes _ _ _ _ p w.2 ∙ sym (ap (end_list (bits_of s)) w.1);
      }

  pub code_tail : (at : ℕ) → f ≡ Ok at → clean (drop at (bits_of s)) ≡ false → CodeRead rlgr3 s out (Tail at)
  unfolding code_reading end_reading reading_number
  code_tail at g p =
      let w = whole_is at g in
      record {
        answer = fails _ _ _ _ p refl ∙ sym (ap (end_reading (bits_of s)) w.1);
        list = λ z. absurd (omega arith);
      }

-- ---- the call

pub record Passed (mode n len : ℕ) : Type 0 where
  pub known : is_mode mode ≡ true
  pub full : n ≡ 4096
  pub small : len ≤ 65535

pub passed : (mode n len : ℕ) → 0 ≡ shell_fault mode n len → Passed mode n len
unfolding shell_fault
passed mode n len e =
    let a = held (is_mode mode) 5 _ 0 (λ z. omega arith) e in
    let b = held (eqb n 4096) 2 _ 0 (λ z. omega arith) a.1 in
    let d = held (leb len 65535) 6 _ 0 (λ z. omega arith) b.1 in
    record { known = a.0; full = eqb-true n 4096 b.0; small = leb-true len 65535 d.0 }

-- a code that is not taken leaves zeros
end_zeros : (B : List Bool) (w : Walked) → (reading_number (end_reading B w) ≡ 0 → ⊥) → end_list B w ≡ replicate 4096 (pos 0)
unfolding end_reading end_list reading_number ◌!◌⨾◌
end_zeros B (bad q) h = refl
end_zeros B (whole xs at) h = go (clean (drop at B)) h
  where
    go : (b : Bool) → (reading_number (b ! Tail at ⨾ Done at) ≡ 0 → ⊥) → (b ! replicate 4096 (pos 0) ⨾ map unfold_z xs) ≡ replicate 4096 (pos 0)
    go true h = absurd (h refl)
    go false h = refl

refused_zeros : (rlgr3 : Bool) (s : List ℕ) → (reading_number (code_reading rlgr3 s) ≡ 0 → ⊥) → code_list rlgr3 s ≡ replicate 4096 (pos 0)
unfolding code_reading code_list
refused_zeros rlgr3 s h = end_zeros (bits_of s) (read_list rlgr3 4096 (bits_of s)) h

shell_stops : (f : ℕ) (q : Refusal) (r : Reading) → refusal_number q ≡ f → Refused q ≡ after_shell f r
unfolding after_shell
shell_stops zero q r e = absurd (number_pos q e)
shell_stops (suc f) q r e = ap Refused (sym (refusal_back q) ∙ ap refusal_of e)

pub shell_goes : (f : ℕ) (r : Reading) → f ≡ 0 → r ≡ after_shell f r
unfolding after_shell
shell_goes zero r h = refl
shell_goes (suc f) r h = absurd (omega arith)

module _ (mode : ℕ) (s : List ℕ) (before : List ℤ) where
  pub shell_refused : (q : Refusal) → refusal_number q ≡ shell_fault mode (length before) (length s) → ComponentRead mode s before before (Refused q)
  unfolding reading read_into
  shell_refused q e =
      record { answer = shell_stops _ q (code_reading (eqb mode 4) s) e; list = fails _ _ _ _ (ne_eqb _ 0 (λ z. number_pos q (e ∙ z))) refl }

  module _ (e : 0 ≡ shell_fault mode (length before) (length s)) (mid after : List ℤ) (r : Reading) (c : CodeRead (eqb mode 4) s mid r) where
    answer_is : r ≡ reading mode (length before) s
    unfolding reading
    answer_is = c.answer ∙ shell_goes (shell_fault mode (length before) (length s)) (code_reading (eqb mode 4) s) (sym e)

    -- the code was taken
    pub code_taken : reading_number r ≡ 0 → ComponentRead mode s before mid r
    unfolding read_into decoded
    code_taken h = record { answer = answer_is; list = passes _ _ _ _ (eq-eqb _ 0 (sym e)) (c.list h) }

    -- it was refused, and the list cleared again
    pub code_refused : (reading_number r ≡ 0 → ⊥) → after ≡ replicate 4096 (pos 0) → ComponentRead mode s before after r
    unfolding read_into decoded
    code_refused h a = record {
      answer = answer_is;
      list = passes _ _ _ _ (eq-eqb _ 0 (sym e)) (a ∙ sym (refused_zeros (eqb mode 4) s (λ q. h (ap reading_number c.answer ∙ q))));
    }

-- the number and the bits of what the reader answers
pub read_number : (mode : ℕ) (s : List ℕ) (before after : List ℤ) (r : Reading) → ComponentRead mode s before after r →
    reading_number r ≡ read_fault mode (length before) s
unfolding read_fault
read_number mode s before after r c = ap reading_number c.answer

pub read-bits : (mode : ℕ) (s : List ℕ) (before after : List ℤ) (r : Reading) → ComponentRead mode s before after r →
    reading_bits r ≡ read_bits mode (length before) s
unfolding read_bits
read-bits mode s before after r c = ap reading_bits c.answer

-- ---- what an answer 0 gives

-- the call passed its shell, the code was read whole, and its tail is clean
pub record Accepted (mode n : ℕ) (s : List ℕ) : Type 0 where
  pub shell : 0 ≡ shell_fault mode n (length s)
  pub xs : List ℕ
  pub at : ℕ
  pub walked : read_list (eqb mode 4) 4096 (bits_of s) ≡ whole xs at
  pub tail : clean (drop at (bits_of s)) ≡ true

number_split : (f : ℕ) (r : Reading) → 0 ≡ reading_number (after_shell f r) → (0 ≡ f) × (0 ≡ reading_number r)
unfolding after_shell reading_number
number_split zero r e = (refl, e)
number_split (suc f) r e = absurd (refusal_some (refusal_of (suc f)) e)

walk_split : (B : List Bool) (w : Walked) → 0 ≡ reading_number (end_reading B w) → (xs : List ℕ) × (at : ℕ) × (w ≡ whole xs at) × (clean (drop at B) ≡ true)
unfolding end_reading reading_number ◌!◌⨾◌
walk_split B (bad q) e = absurd (refusal_some q e)
walk_split B (whole xs at) e = (xs, at, refl, go (clean (drop at B)) e)
  where
    go : (b : Bool) → 0 ≡ reading_number (b ! Tail at ⨾ Done at) → b ≡ true
    go true e = refl
    go false e = absurd (omega arith)

pub accepted : (mode n : ℕ) (s : List ℕ) → 0 ≡ read_fault mode n s → Accepted mode n s
unfolding read_fault reading code_reading
accepted mode n s e =
    let p = number_split (shell_fault mode n (length s)) (code_reading (eqb mode 4) s) e in
    let w = walk_split (bits_of s) (read_list (eqb mode 4) 4096 (bits_of s)) p.1 in
    record { shell = p.0; xs = w.0; at = w.1; walked = w.2; tail = w.3 }

unfold_near : (v : ℕ) → v ≤ 65534 → Near 32767 (unfold_z v)
unfold_near v h = record { near = fold_near (unfold_z v) (subst (λ (n : ℕ). n ≤ 65534) (sym (fold_unfold v)) h) }

map_near : (xs : List ℕ) → InRange xs → AllNear 32767 (map unfold_z xs)
unfolding unfold_z unfold_by
map_near xs r = record { all = λ i. subst (Near 32767) (sym (get_or-map unfold_z xs i 0)) (unfold_near (get_or xs i 0) (r i)) }

module _ (mode n : ℕ) (s : List ℕ) (a : Accepted mode n s) where
  pub accepted_list : decoded mode s ≡ map unfold_z a.xs
  unfolding decoded code_list end_list
  accepted_list = ap (end_list (bits_of s)) a.walked ∙ sym (passes _ _ _ _ a.tail refl)

  pub accepted_taken : Taken (eqb mode 4) 4096 (bits_of s) a.xs a.at
  accepted_taken = taken (eqb mode 4) 4096 (bits_of s) a.xs a.at a.walked

module _ (mode n : ℕ) (s : List ℕ) (e : 0 ≡ read_fault mode n s) where
  -- the call was one that may be done
  pub read_passed : Passed mode n (length s)
  read_passed = passed mode n (length s) (accepted mode n s e).shell

  pub decoded_length : length (decoded mode s) ≡ 4096
  decoded_length =
      let a = accepted mode n s e in
      ap length (accepted_list mode n s a) ∙ length-map a.xs unfold_z ∙ (accepted_taken mode n s a).len

  pub decoded_near : AllNear 32767 (decoded mode s)
  decoded_near =
      let a = accepted mode n s e in
      subst (AllNear 32767) (sym (accepted_list mode n s a)) (map_near a.xs (accepted_taken mode n s a).range)

-- on 0 the list is the code's
pub into_decoded : (mode : ℕ) (s : List ℕ) (before : List ℤ) → 0 ≡ read_fault mode (length before) s → read_into mode s before ≡ decoded mode s
unfolding read_into
into_decoded mode s before e = sym (passes _ _ _ _ (eq-eqb _ 0 (sym (accepted mode (length before) s e).shell)) refl)

-- ---- a code read again: where it has no fault, filling cannot end in a refusal, and leaves the decoded list

-- 02, request Eight: "Show that after a passed check it can't be taken"
pub checked_whole :
    (mode : ℕ) (s : List ℕ) (out : List ℤ) (f : Result ℕ Refusal) → 0 ≡ read_fault mode 4096 s → Fills (read_list (eqb mode 4) 4096 (bits_of s)) out f →
    (at : ℕ) × (f ≡ Ok at) × (out ≡ decoded mode s)
checked_whole mode s out f e h =
    let a = accepted mode 4096 s e in
    let p = subst (λ (x : Walked). Fills x out f) a.walked h in
    (a.at, p.1, p.0 ∙ sym (accepted_list mode 4096 s a))
