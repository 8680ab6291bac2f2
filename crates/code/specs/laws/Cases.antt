-- 01's (p) cases of the component code, in one statement, proved of the definitions by computation.
-- (01 is this project's scope document, 02 its change requests, 001 is MS-RDPRFX: README, "What 01 is".)
use Rattle.std.specs.Prelude.{ℕ, zero, suc, ◌≤◌, ◌≡◌, refl, true, false, List, [], ◌∷◌, ◌++◌, ℤ, pos, negsuc, nat_abs, length, get_or, replicate}
use Rattle.std.proofs.Common.{sym, ◌∙◌, arith}
use Rattle.std.proofs.Math.Path.{ap}
use Rattle.std.proofs.lemmas.List.{length-replicate}
use Rattle.whole.specs.Row.{◌!◌⨾◌, ◌⇒◌∣◌}
use Rattle.wire.specs.Mode.{is_mode}
use Rattle.wire.specs.laws.Mode.{is_1, is_4}
use Rattle.bits.specs.Bits.{bits_of, num_bits, num_of}
use Rattle.bits.specs.Bytes.{Written}
use Rattle.code.specs.Fold.{fold_z, unfold_z, unfold_by}
use Rattle.code.specs.Code.{code_of, code_f, item_of, item_bits, item_used, item_kp, item_krp, zeros_of, run_bits, pair_bits, kr_after, kp_one, kp_two}
use Rattle.code.specs.ReadList.{read_list}
use Rattle.code.specs.Read.{reading_number, clean, end_reading, code_reading, shell_fault, after_shell, reading, read_fault, read_bits}
use Rattle.code.specs.OneCode.{code, Listed, Call, Exactly}
use Rattle.code.specs.laws.OneCode.{exactly_answers, behind_number, behind_bits}
use Rattle.code.specs.Cases.{first, Coded, Cases}

-- ---- computed: the codes, and the reading that is cut

zeros_1 : code 1 (first (pos 0)) ≡ replicate 21 false
unfolding code_of code_f item_of item_bits item_used item_kp item_krp zeros_of fold_z
zeros_1 = refl

zeros_4 : code 4 (first (pos 0)) ≡ replicate 21 false
unfolding code_of code_f item_of item_bits item_used item_kp item_krp zeros_of fold_z
zeros_4 = refl

plus_1 : Written (0x80 ∷ 0x00 ∷ 0x00 ∷ 0x00 ∷ []) (code 1 (first (pos 1)))
unfolding code_of code_f item_of item_bits item_used item_kp item_krp zeros_of fold_z run_bits kr_after kp_one bits_of num_bits
plus_1 = record { pad = 4; few = omega arith; bits = refl }

plus_4 : Written (0x80 ∷ 0x00 ∷ 0x00 ∷ 0x00 ∷ []) (code 4 (first (pos 1)))
unfolding code_of code_f item_of item_bits item_used item_kp item_krp zeros_of fold_z run_bits kr_after kp_two pair_bits bits_of num_bits
plus_4 = record { pad = 5; few = omega arith; bits = refl }

minus_1 : Written (0xA0 ∷ 0x00 ∷ 0x00 ∷ 0x00 ∷ []) (code 1 (first (negsuc 0)))
unfolding code_of code_f item_of item_bits item_used item_kp item_krp zeros_of fold_z run_bits kr_after kp_one bits_of num_bits
minus_1 = record { pad = 4; few = omega arith; bits = refl }

minus_4 : Written (0xA0 ∷ 0x00 ∷ 0x00 ∷ 0x00 ∷ []) (code 4 (first (negsuc 0)))
unfolding code_of code_f item_of item_bits item_used item_kp item_krp zeros_of fold_z run_bits kr_after kp_two pair_bits bits_of num_bits
minus_4 = record { pad = 5; few = omega arith; bits = refl }

cut_1 : read_fault 1 4096 (0x00 ∷ 0x00 ∷ []) ≡ 1
unfolding read_fault reading_number reading after_shell shell_fault is_mode ◌!◌⨾◌ ◌⇒◌∣◌ code_reading end_reading read_list bits_of num_of
    num_bits
cut_1 = refl

cut_4 : read_fault 4 4096 (0x00 ∷ 0x00 ∷ []) ≡ 1
unfolding read_fault reading_number reading after_shell shell_fault is_mode ◌!◌⨾◌ ◌⇒◌∣◌ code_reading end_reading read_list bits_of num_of
    num_bits
cut_4 = refl

empty_1 : read_fault 1 4096 [] ≡ 1
unfolding read_fault reading_number reading after_shell shell_fault is_mode ◌!◌⨾◌ ◌⇒◌∣◌ code_reading end_reading read_list bits_of num_of
    num_bits
empty_1 = refl

empty_4 : read_fault 4 4096 [] ≡ 1
unfolding read_fault reading_number reading after_shell shell_fault is_mode ◌!◌⨾◌ ◌⇒◌∣◌ code_reading end_reading read_list bits_of num_of
    num_bits
empty_4 = refl

-- ---- from these, by the laws

zero_at : (n i : ℕ) → get_or (replicate n (pos 0)) i (pos 0) ≡ pos 0
zero_at zero i = refl
zero_at (suc n) zero = refl
zero_at (suc n) (suc i) = zero_at n i

listed : (x : ℤ) → nat_abs x ≤ 32767 → Listed (first x)
listed x h = record { len = ap suc (length-replicate 4095 (pos 0)); range = go }
  where
    go : (i : ℕ) → nat_abs (get_or (first x) i (pos 0)) ≤ 32767
    go zero = h
    go (suc i) = rw (zero_at 4095 i) (omega arith)

coded : (mode : ℕ) (s : List ℕ) (x : ℤ) → is_mode mode ≡ true → length s ≤ 65535 → nat_abs x ≤ 32767 → Written s (code mode (first x)) → Coded mode s (first x)
coded mode s x m l h w = record {
  written = w;
  answer = ap (λ (n : ℕ). reading mode n s) (sym full) ∙ (exactly_answers mode s (first x) (first x) (all (first x) full)).0;
  list = λ before b. (exactly_answers mode s before (first x) (all before b)).1;
}
  where
    full : length (first x) ≡ 4096
    full = ap suc (length-replicate 4095 (pos 0))

    all : (before : List ℤ) → length before ≡ 4096 → Exactly mode s before (first x)
    all before b = record { call = record { allowed = m; room = b; small = l }; list = listed x h; bytes = w }

-- all zeros: 21 bits, and what stands behind them
module _ (mode : ℕ) (m : is_mode mode ≡ true) (z : code mode (first (pos 0)) ≡ replicate 21 false) where
  full : length (first (pos 0)) ≡ 4096
  full = ap suc (length-replicate 4095 (pos 0))

  three : Written (0x00 ∷ 0x00 ∷ 0x00 ∷ []) (code mode (first (pos 0)))
  unfolding bits_of num_bits
  three = record { pad = 3; few = omega arith; bits = rw z }

  four : bits_of (0x00 ∷ 0x00 ∷ 0x00 ∷ 0x00 ∷ []) ≡ code mode (first (pos 0)) ++ replicate 11 false
  unfolding bits_of num_bits
  four = rw z

  long : length (code mode (first (pos 0))) ≡ 21
  long = ap length z

  call : Call mode (0x00 ∷ 0x00 ∷ 0x00 ∷ 0x00 ∷ []) (first (pos 0))
  call = record { allowed = m; room = full; small = omega arith }

  tail : read_fault mode 4096 (0x00 ∷ 0x00 ∷ 0x00 ∷ 0x00 ∷ []) ≡ 11
  unfolding clean ◌!◌⨾◌
  tail =
      ap (λ (n : ℕ). read_fault mode n (0x00 ∷ 0x00 ∷ 0x00 ∷ 0x00 ∷ [])) (sym full)
      ∙ behind_number mode (0x00 ∷ 0x00 ∷ 0x00 ∷ 0x00 ∷ []) (first (pos 0)) (first (pos 0)) call (listed (pos 0) (omega arith)) (replicate 11 false) four

  tail_bits : read_bits mode 4096 (0x00 ∷ 0x00 ∷ 0x00 ∷ 0x00 ∷ []) ≡ 21
  tail_bits =
      ap (λ (n : ℕ). read_bits mode n (0x00 ∷ 0x00 ∷ 0x00 ∷ 0x00 ∷ [])) (sym full)
      ∙ behind_bits mode (0x00 ∷ 0x00 ∷ 0x00 ∷ 0x00 ∷ []) (first (pos 0)) (first (pos 0)) call (listed (pos 0) (omega arith)) (replicate 11 false) four
      ∙ long

folds : (unfold_z 0 ≡ pos 0) × (unfold_z 1 ≡ negsuc 0) × (unfold_z 2 ≡ pos 1) × (unfold_z 3 ≡ negsuc 1)
unfolding unfold_z unfold_by
folds = (refl, refl, refl, refl)

pub cases : Cases
cases = record {
  zeros =
      (coded 1 _ (pos 0) is_1 (omega arith) (omega arith) (three 1 is_1 zeros_1), coded 4 _ (pos 0) is_4 (omega arith) (omega arith) (three 4 is_4 zeros_4));
  zeros_bits = (long 1 is_1 zeros_1, long 4 is_4 zeros_4);
  two_cut = (cut_1, cut_4);
  four_tail = (tail 1 is_1 zeros_1, tail 4 is_4 zeros_4);
  four_bits = (tail_bits 1 is_1 zeros_1, tail_bits 4 is_4 zeros_4);
  empty_cut = (empty_1, empty_4);
  plus = (coded 1 _ (pos 1) is_1 (omega arith) (omega arith) plus_1, coded 4 _ (pos 1) is_4 (omega arith) (omega arith) plus_4);
  minus = (coded 1 _ (negsuc 0) is_1 (omega arith) (omega arith) minus_1, coded 4 _ (negsuc 0) is_4 (omega arith) (omega arith) minus_4);
  folded = folds;
}
