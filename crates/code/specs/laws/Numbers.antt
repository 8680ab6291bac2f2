-- Which numbers the component reader answers, and what its list holds on each: 01, "The component reader leaves its output list untouched on 5, 2 and 6
-- and fills it with zeros on 1, 9, 10, 11."
-- Assumes nothing.
-- (01 is this project's scope document, 02 its change requests, 001 is MS-RDPRFX: README, "What 01 is".)
use Rattle.std.specs.Prelude.{ℕ, zero, suc, ◌≤◌, ◌≡◌, Bool, true, false, List, [], ◌∷◌, eqb, leb, ℤ, pos, length, drop, replicate}
use Rattle.std.proofs.Math.Path.{refl, sym, ap, subst}
use Rattle.std.proofs.Common.{◌∙◌, arith, eq-eqb, ne_eqb}
use Rattle.whole.specs.Row.{◌!◌⨾◌, ◌⨟◌}
use Rattle.whole.specs.laws.Row.{passes, fails, goes_on}
use Rattle.whole.specs.Among.{among, Among}
use Rattle.whole.specs.laws.Among.{said, among_row, among_then, numbers, each, among_all, among_none, among_most, among_not, first_there, first_none}
use Rattle.wire.specs.Mode.{is_mode}
use Rattle.bits.specs.Bits.{bits_of}
use Rattle.code.specs.ReadList.{Walked, whole, bad, read_list}
use Rattle.code.specs.Read.{reading_number, clean, end_reading, end_list, code_reading, code_list, shell_fault, after_shell, reading, read_fault, decoded}
use Rattle.code.specs.Read.{read_into, ComponentRead}
use Rattle.wire.specs.Refusal.{refusal_number}
use Rattle.wire.specs.laws.Refusal.{number_back}
use Rattle.wire.specs.declared.Refusal.{Refusal}
use Rattle.code.specs.laws.Taken.{refused_among}
use Rattle.code.specs.declared.read.Reading.{Reading}
use Rattle.code.specs.declared.read.Reading.TheVariants.{Done, Tail}

-- what is judged before the code, and of the code
abbrev pub shell_numbers : List ℕ
shell_numbers = 5 ∷ 2 ∷ 6 ∷ []

abbrev pub code_numbers : List ℕ
code_numbers = 1 ∷ 9 ∷ 10 ∷ 11 ∷ []

-- ---- the shell

shell_among : (mode n len : ℕ) → Among (0 ∷ shell_numbers) (shell_fault mode n len)
unfolding shell_fault among
shell_among mode n len = search numbers

-- a list of 4,096 is not refused by 2
full_among : (mode len : ℕ) → Among (0 ∷ 5 ∷ 6 ∷ []) (shell_fault mode 4096 len)
unfolding shell_fault among ◌!◌⨾◌
full_among mode len = among_row (is_mode mode) 5 (leb len 65535 ! 6 ⨾ 0) (said refl) (among_row (leb len 65535) 6 0 (said refl) (said refl))

-- ---- the code

tail_among : (b : Bool) (at : ℕ) → Among (0 ∷ code_numbers) (reading_number (b ! Tail at ⨾ Done at))
unfolding reading_number ◌!◌⨾◌ among
tail_among true at = said refl
tail_among false at = said refl

end_among :
    (B : List Bool) (w : Walked) → ((r : Refusal) → w ≡ bad r → Among (1 ∷ 9 ∷ 10 ∷ []) (refusal_number r)) →
    Among (0 ∷ code_numbers) (reading_number (end_reading B w))
unfolding end_reading reading_number each among
end_among B (bad r) h = among_all _ (h r refl) refl
end_among B (whole xs at) h = tail_among (clean (drop at B)) at

-- a code that is refused leaves zeros
tail_zeros : (zs : List ℤ) (at : ℕ) (b : Bool) → (reading_number (b ! Tail at ⨾ Done at) ≡ 0 → ⊥) → (b ! replicate 4096 (pos 0) ⨾ zs) ≡ replicate 4096 (pos 0)
unfolding reading_number ◌!◌⨾◌
tail_zeros zs at true h = absurd (h refl)
tail_zeros zs at false h = refl

end_zeros : (B : List Bool) (w : Walked) → (reading_number (end_reading B w) ≡ 0 → ⊥) → end_list B w ≡ replicate 4096 (pos 0)
unfolding end_reading end_list
end_zeros B (bad r) h = refl
end_zeros B (whole xs at) h = tail_zeros _ at (clean (drop at B)) h

-- ---- the call: the shell's fault, then the code's

after_number : (f : ℕ) (r : Reading) → f ≤ 13 → reading_number (after_shell f r) ≡ (f ⨟ reading_number r)
unfolding after_shell reading_number ◌⨟◌
after_number zero r u = refl
after_number (suc f) r u = number_back (suc f) (omega arith) u

abbrev code_fault : ℕ → List ℕ → ℕ
code_fault mode s = reading_number (end_reading (bits_of s) (read_list (eqb mode 4) 4096 (bits_of s)))

fault_parts : (mode n : ℕ) (s : List ℕ) → read_fault mode n s ≡ (shell_fault mode n (length s) ⨟ code_fault mode s)
unfolding read_fault reading code_reading each
fault_parts mode n s = after_number (shell_fault mode n (length s)) _ (among_most 13 (shell_among mode n (length s)) refl)

code_among : (mode : ℕ) (s : List ℕ) → Among (0 ∷ code_numbers) (code_fault mode s)
unfolding read_list
code_among mode s = end_among (bits_of s) (read_list (eqb mode 4) 4096 (bits_of s)) (λ r e. refused_among 4096 (eqb mode 4) 8 8 0 4096 [] (bits_of s) r e)

-- the numbers of a call; and of one with a list of 4,096
pub fault_among : (mode n : ℕ) (s : List ℕ) → Among (0 ∷ 5 ∷ 2 ∷ 6 ∷ 1 ∷ 9 ∷ 10 ∷ 11 ∷ []) (read_fault mode n s)
unfolding each among
fault_among mode n s = rw (fault_parts mode n s) (among_then _ _ (among_all _ (shell_among mode n (length s)) refl) (among_all _ (code_among mode s) refl))

pub full_fault_among : (mode : ℕ) (s : List ℕ) → Among (0 ∷ 5 ∷ 6 ∷ 1 ∷ 9 ∷ 10 ∷ 11 ∷ []) (read_fault mode 4096 s)
unfolding each among
full_fault_among mode s = rw (fault_parts mode 4096 s) (among_then _ _ (among_all _ (full_among mode (length s)) refl) (among_all _ (code_among mode s) refl))

module _ (mode : ℕ) (s : List ℕ) (before after : List ℤ) (r : Reading) (p : ComponentRead mode s before after r) where
  shell : ℕ
  shell = shell_fault mode (length before) (length s)

  pub read_number : reading_number r ≡ read_fault mode (length before) s
  unfolding read_fault
  read_number = ap reading_number p.answer

  both_number : reading_number r ≡ (shell ⨟ code_fault mode s)
  unfolding shell
  both_number = read_number ∙ fault_parts mode (length before) s

  pub list_untouched : Among shell_numbers (reading_number r) → after ≡ before
  unfolding shell read_into each among
  list_untouched e =
      let h = first_there shell (code_fault mode s) (among_none shell_numbers (code_among mode s) refl) (subst (Among shell_numbers) both_number e) in
      p.list ∙ sym (fails _ _ _ _ (ne_eqb shell 0 h) refl)

  pub list_zeros : Among code_numbers (reading_number r) → after ≡ replicate 4096 (pos 0)
  unfolding shell read_into decoded code_list each among
  list_zeros e =
      let c = subst (Among code_numbers) both_number e in
      let z = first_none shell (code_fault mode s) (shell_among mode (length before) (length s)) (among_none shell_numbers c refl) in
      let n : (code_fault mode s ≡ 0 → ⊥) = λ q. among_not 0 _ c refl (sym (goes_on _ _ _ z (sym q))) in
      p.list ∙ (sym (passes _ _ _ _ (eq-eqb shell 0 z) refl) ∙ end_zeros (bits_of s) _ n)
