-- Writing ones and GR numbers, in the forms that the code has.
-- Assumes nothing.
use Rattle.std.specs.Prelude.{ℕ, ◌+◌, ◌*◌, ◌/◌, ◌%◌, ◌^◌, ◌≤◌, ◌<◌, ◌≡◌, Bool, true, false, List, ◌∷◌, ◌++◌, replicate}
use Rattle.std.proofs.Common.{ap₂, arith, mod-eq_of_lt, mod-lt, le_refl, pow-suc, add-one, pow_mono, pow_pos}
use Rattle.std.proofs.Math.Nat.{div-eq_of_lt}
use Rattle.bits.specs.Bits.{gr_bits, num_bits, odd}
use Rattle.bits.specs.laws.Here.{num_bits_mod}

-- how many bits a GR number has
abbrev pub gr_len : ℕ → ℕ → ℕ
gr_len k n = n / 2 ^ k + 1 + k

pub shift_one : (k : ℕ) → k ≤ 10 → 1 * 2 ^ k % 2 ^ 64 ≡ 2 ^ k
shift_one k h = let p : 2 ^ k ≤ 1024 = pow_mono {j = 10} h in let e : 1 * 2 ^ k ≡ 2 ^ k = omega arith in rw e (mod-eq_of_lt (omega arith))

low_bits : (k n : ℕ) → num_bits (k + 1) (n % 2 ^ k) ≡ false ∷ num_bits k n
unfolding num_bits
low_bits k n = rw (add-one k) (ap₂ (λ (x : ℕ) (l : List Bool). odd x ∷ l) (div-eq_of_lt (mod-lt n (pow_pos k))) (num_bits_mod k k n (le_refl k)))

-- the ones, then the zero and the low bits as one number of k + 1 bits
pub gr_parts : (k n m : ℕ) → m ≡ 2 ^ k → replicate (n / 2 ^ k) true ++ num_bits (k + 1) (n % m) ≡ gr_bits k n
unfolding gr_bits
gr_parts k n m e = rw (e, low_bits k n)

-- which k + 1 bits hold
pub gr_low : (k n : ℕ) → n % 2 ^ k < 2 ^ (k + 1)
gr_low k n =
    let p : 2 ^ (k + 1) ≡ 2 ^ k * 2 = rw (add-one k) (pow-suc 2 k) in
    let m : n % 2 ^ k < 2 ^ k = mod-lt n (pow_pos k) in
    omega (arith, p)
