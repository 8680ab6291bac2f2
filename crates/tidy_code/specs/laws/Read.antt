-- Reading what some bytes mean: one law for each way out of each function, in plain variables.
use Rattle.std.specs.Prelude.{ℕ, zero, suc, ◌+◌, ◌-◌, ◌%◌, ◌≤◌, ◌<◌, ◌≡◌, Bool, true, false, eqb, ℤ, length, take, get_or}
use Rattle.std.proofs.Math.Path.{refl}
use Rattle.std.proofs.Common.{sym, ap, subst, ◌∙◌, arith}
use mathlib.Core.List.{List}
use borrow.Author.Tests.{le-leb, lt-leb, lt-ltb, le-ltb, eq-eqb, ne_eqb}
use Rattle.std.proofs.Math.Seq.{take-length}
use Rattle.whole.specs.laws.Row.{passes, fails, case_yes, case_no}
use Rattle.wire.specs.Mode.{is_mode}
use Rattle.wire.specs.Le.{patch}
use Rattle.bits.specs.Bits.{bits_of}
use Rattle.code.specs.ReadList.{read_list}
use Rattle.code.specs.Read.{shell_fault, read_fault, read_bits, decoded, reading_number, reading_bits, ComponentRead}
use Rattle.code.specs.laws.Read.{read_number, read-bits, into_decoded}
use Rattle.code.specs.declared.read.Reading.{Reading}
use Rattle.code_write.specs.Write.{bytes_of}
use Rattle.tidy_code.specs.Sent.{Meant, means, unclear, ends_zero, all_but, padded_meant, longer_meant, surplus_meant, others_meant, meant_by, is_meant}
use Rattle.tidy_code.specs.Sent.{list_meant}
use Rattle.tidy_code.specs.Sent.{tidy_code, Answers, MeantRead}
use Rattle.tidy_code.specs.laws.Request.{is_code, others_kept}

-- an answer that is one of what is meant
as_meant : (m n : Meant) (after : List ℤ) (r : Bool) → m ≡ n → Answers m after r → Answers n after r
as_meant m n after r e a = subst (λ (x : Meant). Answers x after r) e a

pub list-meant : (m : Meant) (zs after : List ℤ) → means zs ≡ m → after ≡ zs → Answers m after true
unfolding is_meant list_meant
list-meant m zs after e l = as_meant (means zs) m after true e (record { answer = refl; list = l })

-- ---- what the component reader answered, in a list of 4,096

module _ (mode : ℕ) (w : List ℕ) (before after : List ℤ) (a : Reading) (n : length before ≡ 4096) (p : ComponentRead mode w before after a) where
  number_is : (k : ℕ) → k ≡ reading_number a → k ≡ read_fault mode 4096 w
  number_is k e = e ∙ read_number mode w before after a p ∙ ap (λ (l : ℕ). read_fault mode l w) n

  bits_is : (k : ℕ) → k ≡ reading_bits a → k ≡ read_bits mode 4096 w
  bits_is k e = e ∙ read-bits mode w before after a p ∙ ap (λ (l : ℕ). read_bits mode l w) n

  -- where it is 0 the list is the code's
  list_is : (k : ℕ) → k ≡ reading_number a → k ≡ 0 → after ≡ decoded mode w
  list_is k e z = p.list ∙ into_decoded mode w before (sym z ∙ e ∙ read_number mode w before after a p)

  module _ (k : ℕ) (ek : k ≡ reading_number a) where
    pub padded_no : (new : List ℤ) (r : Bool) → (k ≡ 0 → ⊥) → Answers unclear new r → Answers (padded_meant mode w) new r
    unfolding padded_meant
    padded_no new r h = as_meant _ _ new r (fails _ _ _ _ (ne_eqb (read_fault mode 4096 w) 0 (λ z. h (number_is k ek ∙ z))) refl)

    module _ (z : k ≡ 0) (b : ℕ) (eb : b ≡ reading_bits a) where
      good : eqb (read_fault mode 4096 w) 0 ≡ true
      good = eq-eqb (read_fault mode 4096 w) 0 (sym (number_is k ek) ∙ z)

      pub padded_few : (new : List ℤ) (r : Bool) → b % 8 < 5 → Answers unclear new r → Answers (padded_meant mode w) new r
      unfolding padded_meant
      padded_few new r h =
          as_meant _ _ new r (passes _ _ _ _ good (fails _ _ _ _ (lt-leb 5 (read_bits mode 4096 w % 8) (rw (← bits_is b eb) h)) refl))

      pub padded_is : 5 ≤ b % 8 → Answers (padded_meant mode w) after true
      unfolding padded_meant
      padded_is h =
          list-meant _ (decoded mode w) after (passes _ _ _ _ good (passes _ _ _ _ (le-leb 5 (read_bits mode 4096 w % 8) (rw (← bits_is b eb) h)) refl))
          (list_is k ek z)

    -- the whole code, behind the call's own checks
    module _ (s : ℕ) (m : is_mode mode ≡ true) (small : length w ≤ 65535) where
      shell : eqb (shell_fault mode 4096 (length w)) 0 ≡ true
      unfolding shell_fault
      shell =
          eq-eqb (shell_fault mode 4096 (length w)) 0
          (sym (passes _ _ _ _ m (passes _ _ _ _ refl (passes _ _ _ _ (le-leb (length w) 65535 small) refl))))

      pub meant_good : k ≡ 0 → MeantRead s mode w after true
      unfolding meant_by
      meant_good z =
          list-meant _ (decoded mode w) after
          (passes _ _ _ _ shell (case_yes _ _ _ _ (eq-eqb (read_fault mode 4096 w) 0 (sym (number_is k ek) ∙ z)) refl)) (list_is k ek z)

      pub meant_others : (new : List ℤ) (r : Bool) → (k ≡ 0 → ⊥) → Answers (others_meant s mode w) new r → MeantRead s mode w new r
      unfolding meant_by
      meant_others new r h =
          as_meant _ _ new r (passes _ _ _ _ shell (case_no _ _ _ _ (ne_eqb (read_fault mode 4096 w) 0 (λ z. h (number_is k ek ∙ z))) refl))

-- ---- the sender

module _ (s mode : ℕ) (w : List ℕ) (after : List ℤ) (r : Bool) where
  pub surplus_one : s ≡ 1 → Answers (padded_meant mode w) after r → Answers (surplus_meant s mode w) after r
  unfolding surplus_meant
  surplus_one e a = rw e a

  pub surplus_two : s ≡ 2 → Answers (longer_meant (bits_of w) (read_list (eqb mode 4) 4097 (bits_of w))) after r → Answers (surplus_meant s mode w) after r
  unfolding surplus_meant
  surplus_two e a = rw e a

pub surplus_none :
    (s mode : ℕ) (w : List ℕ) (after : List ℤ) (r : Bool) → (s ≡ 1 → ⊥) → (s ≡ 2 → ⊥) → Answers unclear after r → Answers (surplus_meant s mode w) after r
unfolding surplus_meant
surplus_none zero mode w after r p q a = a
surplus_none (suc zero) mode w after r p q a = absurd (p refl)
surplus_none (suc (suc zero)) mode w after r p q a = absurd (q refl)
surplus_none (suc (suc (suc s))) mode w after r p q a = a

-- ---- the last byte

module _ (s mode : ℕ) (b : List ℕ) (after : List ℤ) (r : Bool) where
  pub others_empty : length b ≤ 0 → Answers unclear after r → Answers (others_meant s mode b) after r
  unfolding others_meant ends_zero
  others_empty h = as_meant _ _ after r (fails _ _ _ _ (sym (fails _ _ _ _ (le-ltb 0 (length b) h) refl)) refl)

  pub others_not : 0 < length b → (get_or b (length b - 1) 0 ≡ 0 → ⊥) → Answers unclear after r → Answers (others_meant s mode b) after r
  unfolding others_meant ends_zero
  others_not l h =
      as_meant _ _ after r
      (fails _ _ _ _ (sym (passes _ _ _ _ (lt-ltb 0 (length b) l) (sym (ne_eqb (get_or b (length b - 1) 0) 0 h)))) refl)

  pub others_ends :
      (w : List ℕ) → 0 < length b → get_or b (length b - 1) 0 ≡ 0 → w ≡ all_but b → Answers (surplus_meant s mode w) after r →
      Answers (others_meant s mode b) after r
  unfolding others_meant ends_zero
  others_ends w l h e a =
      as_meant _ _ after r
      (passes _ _ _ _ (sym (passes _ _ _ _ (lt-ltb 0 (length b) l) (sym (eq-eqb (get_or b (length b - 1) 0) 0 h)))) refl)
      (subst (λ (x : List ℕ). Answers (surplus_meant s mode x) after r) e a)

-- ---- the call's own checks

by_shell : (s mode : ℕ) (b : List ℕ) (n : ℕ) → n ≡ shell_fault mode 4096 (length b) → (n ≡ 0 → ⊥) → unclear ≡ meant_by s mode b
unfolding meant_by
by_shell s mode b n e h = fails (eqb (shell_fault mode 4096 (length b)) 0) unclear _ unclear (ne_eqb (shell_fault mode 4096 (length b)) 0 (λ z. h (e ∙ z))) refl

module _ (s mode : ℕ) (b : List ℕ) (after : List ℤ) (r : Bool) where
  pub meant_mode : is_mode mode ≡ false → Answers unclear after r → MeantRead s mode b after r
  unfolding shell_fault
  meant_mode m = as_meant unclear (meant_by s mode b) after r (by_shell s mode b 5 (fails _ _ _ _ m refl) (λ z. omega arith))

  pub meant_size : is_mode mode ≡ true → 65535 < length b → Answers unclear after r → MeantRead s mode b after r
  unfolding shell_fault
  meant_size m h =
      as_meant unclear (meant_by s mode b) after r
      (by_shell s mode b 6 (passes _ _ _ _ m (passes _ _ _ _ refl (fails _ _ _ _ (lt-leb (length b) 65535 h) refl))) (λ z. omega arith))

-- ---- the output, by what reading said

pub meant_list : (m : Meant) (after : List ℤ) (r : Bool) → Answers m after r → r ≡ true → m ≡ means after
unfolding is_meant list_meant
meant_list unclear after r a e = let x = a.answer in let z : ◌≡◌ {A = ℕ} 0 1 = cc in absurd (omega arith)
meant_list (means zs) after r a e = ap means (sym a.list)

pub meant_unclear : (m : Meant) (after : List ℤ) (r : Bool) → Answers m after r → r ≡ false → m ≡ unclear
unfolding is_meant
meant_unclear unclear after r a e = refl
meant_unclear (means zs) after r a e = let x = a.answer in let z : ◌≡◌ {A = ℕ} 0 1 = cc in absurd (omega arith)

module _ (s mode : ℕ) (b : List ℕ) (after : List ℤ) (r : Bool) (a : MeantRead s mode b after r) (out new : List ℕ) (at : ℕ) where
  pub put-code :
      (n : ℕ) → r ≡ true → (new ≡ patch out at (bytes_of mode after)) × (n ≡ at + length (bytes_of mode after)) →
      (new ≡ patch out at (tidy_code s mode b)) × (n ≡ at + length (tidy_code s mode b)) × (after ≡ list_meant (meant_by s mode b))
  put-code n e w = let c = is_code s mode b after (meant_list (meant_by s mode b) after r a e) in (rw c w.0, rw c w.1, a.list)

  pub put_kept :
      r ≡ false → new ≡ patch out at (take (length b) b) →
      (new ≡ patch out at (tidy_code s mode b)) × (at + length b ≡ at + length (tidy_code s mode b)) × (after ≡ list_meant (meant_by s mode b))
  put_kept e w =
      let k : tidy_code s mode b ≡ b = others_kept s mode b (meant_unclear (meant_by s mode b) after r a e) in
      (rw k (w ∙ ap (patch out at) (take-length b)), ap (λ (x : List ℕ). at + length x) (sym k), a.list)
