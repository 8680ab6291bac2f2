-- Bits put as one number: few ones with what follows them, and a run's head, in the forms that the code has.
-- Assumes nothing.
use Prim.Native.Nat.{ℕ, suc, ◌+◌, ◌*◌, ◌-◌, ◌/◌, ◌%◌, ◌^◌, ◌≤◌, ◌<◌}
use Rattle.std.specs.Prelude.{◌≡◌, Bool, length}
use Rattle.std.proofs.Math.Path.{sym, ap}
use Rattle.std.proofs.Common.{ap₂, subst, ◌∙◌, mod-lt, le_refl, length-append, pow-add, pow_pos, pow_mono}
use mathlib.Core.List.{List, [], ◌∷◌, ◌++◌}
use native.Mathlib.Omega.{arith}
use Rattle.std.proofs.Math.Arith.{digits_lt}
use Rattle.std.proofs.Math.Pow.{high, low}
use Rattle.bits.specs.Bits.{odd, num_bits}
use Rattle.bits.specs.Pen.{PutWide}
use Rattle.bits.specs.laws.Bit.{length_num_bits}
use Rattle.bits.specs.laws.Gr.{shift_one}
use Rattle.bits.specs.laws.Here.{num_bits_mod}
use Rattle.bits.specs.laws.Pen.{num_bits_snoc}
use Rattle.bits.specs.declared.Pen.{Pen}

-- few ones, the zero and the low bits are a number of as many bits
pub ones_small : (k n v : ℕ) → (2 ^ v - 1) * 2 ^ (k + 1) + n % 2 ^ k < 2 ^ (v + (k + 1))
ones_small k n v =
    let m : n % 2 ^ k < 2 ^ k = mod-lt n (pow_pos k) in
    let o : 2 ^ v - 1 < 2 ^ v = omega (arith, pow_pos v) in
    let q : 2 ^ k ≤ 2 ^ (k + 1) = pow_mono (omega arith) in
    subst (λ (x : ℕ). (2 ^ v - 1) * 2 ^ (k + 1) + n % 2 ^ k < x) (sym (pow-add 2 v (k + 1))) (digits_lt o (omega arith))

-- a run's 1, its zeros and its sign
abbrev pub head_bits : ℕ → ℕ → ℕ → List Bool
head_bits k z b = ((odd 1 ∷ []) ++ num_bits k z) ++ (odd b ∷ [])

pub head_length : (k z b : ℕ) → length (head_bits k z b) ≡ k + 2
head_length k z b = omega (arith, length-append ((odd 1 ∷ []) ++ num_bits k z) (odd b ∷ []), length_num_bits k z)

-- as one number, in the code's forms
module _ (k z v : ℕ) (hk : k ≤ 10) (hz : z < 2 ^ k) where
  one : 2 ^ k + z ≡ 1 * 2 ^ k + z
  one = omega arith

  few : 2 ^ k ≤ 1024
  few = pow_mono {j = 10} hk

  pub head_fits : (1 * 2 ^ k % 2 ^ 64 + z ≤ 4096) × ((1 * 2 ^ k % 2 ^ 64 + z) * 2 + v % 2 < 2 ^ (k + 2))
  head_fits = let p : 2 ^ (k + 2) ≡ 2 ^ k * 4 = pow-add 2 k 2 in rw (shift_one k hk) (omega (arith, few), omega (arith, p))

  bits : num_bits (k + 2) ((2 ^ k + z) * 2 + v % 2) ≡ head_bits k z (v % 2)
  unfolding num_bits
  bits =
      let e : k + 2 ≡ suc (suc k) = omega arith in
      let q : (2 ^ k + z) / 2 ^ k ≡ 1 = ap (λ (x : ℕ). x / 2 ^ k) one ∙ high 1 k hz in
      let r : (2 ^ k + z) % 2 ^ k ≡ z = ap (λ (x : ℕ). x % 2 ^ k) one ∙ low 1 k hz in
      let t : num_bits k (2 ^ k + z) ≡ num_bits k z = sym (num_bits_mod k k (2 ^ k + z) (le_refl k)) ∙ ap (λ (x : ℕ). num_bits k x) r in
      ap (λ (m : ℕ). num_bits m ((2 ^ k + z) * 2 + v % 2)) e
      ∙ num_bits_snoc (suc k) (2 ^ k + z) (v % 2) (omega arith)
      ∙ ap (λ (l : List Bool). l ++ (odd (v % 2) ∷ [])) (ap₂ (λ (x : ℕ) (l : List Bool). odd x ∷ l) q t)

  pub head_put : (a b : List ℕ) (p q : Pen) → PutWide a p b q (num_bits (k + 2) ((1 * 2 ^ k % 2 ^ 64 + z) * 2 + v % 2)) → PutWide a p b q
      (head_bits k z (v % 2))
  head_put a b p q w = rw (← bits) (rw (shift_one k hk) at w)
