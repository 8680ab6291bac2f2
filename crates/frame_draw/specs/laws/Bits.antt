-- Laws of a number's bits: of 0, of two numbers together, and of a mask.
use Prim.Native.Nat.{ℕ, zero, suc, ◌+◌, ◌*◌, ◌-◌, ◌/◌, ◌%◌, ◌^◌, ◌≤◌, ◌<◌, max}
use Rattle.std.specs.Prelude.{◌≡◌, refl, true, false, leb}
use Rattle.std.proofs.Math.Path.{ap, sym}
use Rattle.std.proofs.Common.{◌∙◌, mod-lt, mul_assoc, pow-suc, le_refl, pow_pos, pow_mono, pow-add, shl_lt, shr-shr}
use Rattle.std.proofs.Math.Logic.{⊎_elim}
use native.Mathlib.Omega.{arith}
use Rattle.std.proofs.Math.Nat.{zero-div, zero-mul, div-eq_of_lt, lt_of_lt_of_le}
use Rattle.std.proofs.Math.Arith.{digits_mod, dbl_pred}
use Rattle.std.specs.Int.Bits.{bit_or, or_step, shifted_even}
use Rattle.std.proofs.lemmas.Nat.{or_shr, shl-shr}
use Rattle.std.proofs.Math.Dec.{ltb, eqb}
use Rattle.std.proofs.Math.Pow.{shl_exact, high, ones_lt, ones_split}
use borrow.Author.Tests.{le-leb, lt-leb, ltb-true, ltb-false, eqb-true, eqb-false, eq-eqb}
use Rattle.whole.specs.Row.{◌!◌⨾◌, ◌⇒◌∣◌}
use Rattle.whole.specs.laws.Row.{passes, fails, case_no}
use Rattle.frame_draw.specs.Spans.{bit_at, mask_of}
use Rattle.frame_draw.specs.laws.Pixels.{split}
use Rattle.frame_draw.specs.laws.Search.{either}

pub bit_none : (x : ℕ) → bit_at 0 x ≡ false
unfolding bit_at
bit_none x = ap (λ (z : ℕ). eqb (z % 2) 1) (zero-div (2 ^ x))

-- ---- two together

no_one : (r : ℕ) → r < 2 → (r ≡ 1 → ⊥) → r ≡ 0
no_one zero l f = refl
no_one (suc zero) l f = absurd (f refl)
no_one (suc (suc r)) l f = absurd (omega arith)

digit_or : (r s : ℕ) → r < 2 → s < 2 → eqb (max r s) 1 ≡ (eqb r 1 ⇒ true ∣ eqb s 1)
digit_or r s l m =
    ⊎_elim
    (λ (q : eqb r 1 ≡ true). let a = eqb-true r 1 q in eq-eqb (max r s) 1 (omega arith) ∙ sym (either _ _ q))
    (λ (q : eqb r 1 ≡ false).
    let a = no_one r l (eqb-false r 1 q) in
    let b : max r s ≡ s = omega arith in
    case_no _ _ _ _ q (ap (λ (z : ℕ). eqb z 1) b))
    (split (eqb r 1))

low_or : (a b : ℕ) → bit_or a b % 2 ≡ max (a % 2) (b % 2)
low_or a b =
    let l = mod-lt a (pow_pos 1) in
    let m = mod-lt b (pow_pos 1) in
    ap (λ (z : ℕ). z % 2) (or_step a b) ∙ digits_mod (bit_or (a / 2) (b / 2)) (omega arith)

pub bit-or : (a b x : ℕ) → bit_at (bit_or a b) x ≡ (bit_at a x ⇒ true ∣ bit_at b x)
unfolding bit_at
bit-or a b x =
    ap (λ (z : ℕ). eqb (z % 2) 1) (or_shr a b x)
    ∙ (ap (λ (z : ℕ). eqb z 1) (low_or (a / 2 ^ x) (b / 2 ^ x))
    ∙ digit_or (a / 2 ^ x % 2) (b / 2 ^ x % 2) (mod-lt (a / 2 ^ x) (pow_pos 1)) (mod-lt (b / 2 ^ x) (pow_pos 1)))

-- ---- a mask

shift_add : (a i k : ℕ) → a * 2 ^ (i + k) ≡ a * 2 ^ i * 2 ^ k
shift_add a i k = ap (λ (z : ℕ). a * z) (pow-add 2 i k) ∙ sym (mul_assoc a (2 ^ i) (2 ^ k))

-- below its first bit, from there on, and past its last
below : (a j x : ℕ) → a * 2 ^ (suc j + x) / 2 ^ x % 2 ≡ 0
below a j x =
    ap (λ (z : ℕ). z / 2 ^ x % 2) (shift_add a (suc j) x) ∙ (ap (λ (z : ℕ). z % 2) (shl-shr (a * 2 ^ suc j) x) ∙ shifted_even a j)

above : (a f i : ℕ) → a * 2 ^ f / 2 ^ (f + i) ≡ a / 2 ^ i
above a f i = sym (shr-shr (a * 2 ^ f) f i) ∙ ap (λ (z : ℕ). z / 2 ^ i) (shl-shr a f)

ones_div : (j k : ℕ) → (2 ^ (j + k) - 1) / 2 ^ k ≡ 2 ^ j - 1
ones_div j k = ap (λ (z : ℕ). z / 2 ^ k) (ones_split j k) ∙ high (2 ^ j - 1) k (ones_lt k)

ones_odd : (j : ℕ) → (2 ^ suc j - 1) % 2 ≡ 1
ones_odd j =
    ap (λ (z : ℕ). (z - 1) % 2) (pow-suc 2 j) ∙ (ap (λ (z : ℕ). z % 2) (dbl_pred (pow_pos j)) ∙ digits_mod (2 ^ j - 1) (le_refl 2))

module _ (from to x : ℕ) where
  digit_before : x < from → mask_of from to / 2 ^ x % 2 ≡ 0
  unfolding mask_of
  digit_before l =
      let e : from ≡ suc (from - (x + 1)) + x = omega arith in
      ap (λ (z : ℕ). (2 ^ (to - from) - 1) * 2 ^ z / 2 ^ x % 2) e ∙ below (2 ^ (to - from) - 1) (from - (x + 1)) x

  digit_from : from ≤ x → mask_of from to / 2 ^ x ≡ (2 ^ (to - from) - 1) / 2 ^ (x - from)
  unfolding mask_of
  digit_from l =
      let e : x ≡ from + (x - from) = omega arith in
      ap (λ (z : ℕ). (2 ^ (to - from) - 1) * 2 ^ from / 2 ^ z) e ∙ above (2 ^ (to - from) - 1) from (x - from)

  digit_in : from ≤ x → x < to → mask_of from to / 2 ^ x % 2 ≡ 1
  digit_in l m =
      let e : to - from ≡ suc (to - (x + 1)) + (x - from) = omega arith in
      ap (λ (z : ℕ). z % 2)
      (digit_from l ∙ (ap (λ (z : ℕ). (2 ^ z - 1) / 2 ^ (x - from)) e ∙ ones_div (suc (to - (x + 1))) (x - from)))
      ∙ ones_odd (to - (x + 1))

  digit_after : from ≤ x → to ≤ x → mask_of from to / 2 ^ x % 2 ≡ 0
  digit_after l m =
      ap (λ (z : ℕ). z % 2) (digit_from l ∙ div-eq_of_lt (lt_of_lt_of_le (ones_lt (to - from)) (pow_mono {i = to - from} {j = x - from} (omega arith))))

  pub bit_mask : bit_at (mask_of from to) x ≡ (leb from x ! false ⨾ ltb x to)
  unfolding bit_at
  bit_mask =
      ⊎_elim
      (λ (q : ltb x from ≡ true).
      let l = ltb-true x from q in
      fails _ _ _ _ (lt-leb from x l) (ap (λ (z : ℕ). eqb z 1) (digit_before l)))
      (λ (q : ltb x from ≡ false).
      let l = ltb-false x from q in
      passes _ _ _ _ (le-leb from x l)
      (⊎_elim
      (λ (r : ltb x to ≡ true). ap (λ (z : ℕ). eqb z 1) (digit_in l (ltb-true x to r)) ∙ sym r)
      (λ (r : ltb x to ≡ false). ap (λ (z : ℕ). eqb z 1) (digit_after l (ltb-false x to r)) ∙ sym r)
      (split (ltb x to))))
      (split (ltb x from))

-- the first so many bits
pub bit_first : (part x : ℕ) → bit_at (mask_of 0 part) x ≡ ltb x part
bit_first part x = bit_mask 0 part x ∙ sym (passes _ _ _ _ (le-leb 0 x (omega arith)) refl)

-- made by shifts
module _ (from to : ℕ) (m : to ≤ 64) where
  pub mask_made : from < to → mask_of from to ≡ 18446744073709551615 / 2 ^ (64 - (to - from)) * 2 ^ from % 2 ^ 64
  unfolding mask_of
  mask_made l =
      let e : (to - from) + (64 - (to - from)) ≡ 64 = omega arith in
      sym
      (ap (λ (z : ℕ). z * 2 ^ from % 2 ^ 64)
      (ap (λ (z : ℕ). (2 ^ z - 1) / 2 ^ (64 - (to - from))) (sym e) ∙ ones_div (to - from) (64 - (to - from)))
      ∙ shl_exact (to - from) from 64 (ones_lt (to - from)) (omega arith))

  pub mask_none : to ≤ from → mask_of from to ≡ 0
  unfolding mask_of
  mask_none l = let e : to - from ≡ 0 = omega arith in ap (λ (z : ℕ). (2 ^ z - 1) * 2 ^ from) e ∙ zero-mul (2 ^ from)

  pub mask_small : mask_of from to < 18446744073709551616
  unfolding mask_of
  mask_small =
      ⊎_elim
      (λ (q : ltb from to ≡ true).
      let l = ltb-true from to q in
      lt_of_lt_of_le (shl_lt (to - from) from (ones_lt (to - from))) (pow_mono {i = to - from + from} {j = 64} (omega arith)))
      (λ (q : ltb from to ≡ false). let e = mask_none (ltb-false from to q) in omega arith)
      (split (ltb from to))
