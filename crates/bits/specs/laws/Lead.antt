-- A run of ones read a word at a time: the leading zeros of the word's complement.
use Rattle.std.specs.Prelude.{ℕ, zero, suc, ◌*◌, ◌-◌, ◌/◌, ◌%◌, ◌^◌, ◌≤◌, ◌<◌, ◌≡◌, refl}
use Rattle.std.proofs.Common.{sym, ap, ◌∙◌, arith, pow-suc, mod-eq_of_lt, le_refl}
use Rattle.std.proofs.Math.Nat.{div-eq_of_lt, div-eq_of_lt-le, mod-eq-sub-mod}
use Rattle.std.proofs.Math.Decide.{dec_lt}
use Rattle.std.specs.Int.Count.{count_leading_zeros, leading_unique}
use Rattle.std.proofs.lemmas.Nat.{leading_length}
use Rattle.bits.specs.Bits.{num_bits}
use Rattle.bits.specs.Word.{front_ones}
use Rattle.bits.specs.laws.Here.{num_bits_mod}

pub lead_low : (k c : ℕ) → c < 2 ^ k → count_leading_zeros (suc k) c ≡ suc (count_leading_zeros k c)
lead_low k c h =
    let s = leading_length k c h in
    sym (leading_unique (suc k) c (suc (count_leading_zeros k c)) s.0 (omega (arith, s.1)) s.2 s.3)

pub lead_high : (k c : ℕ) → 2 ^ k ≤ c → c < 2 ^ suc k → count_leading_zeros (suc k) c ≡ 0
lead_high k c l h = sym (leading_unique (suc k) c 0 (suc k) (omega arith) h (rw (pow-suc 2 k) (omega arith)))

-- the ones at the front of the k bits of n
pub ones_lead : (k n : ℕ) → n < 2 ^ k → front_ones (num_bits k n) ≡ count_leading_zeros k (2 ^ k - 1 - n)
unfolding front_ones num_bits count_leading_zeros
ones_lead zero n h = refl
ones_lead (suc k) n h = elim (dec_lt n (2 ^ k)) [ yes l ↦ low l | no g ↦ high (omega arith) (λ l. ones_lead k (n - 2 ^ k) l) ]
  where
    p : 2 ^ suc k ≡ 2 ^ k * 2
    p = pow-suc 2 k

    low : n < 2 ^ k → front_ones (num_bits (suc k) n) ≡ count_leading_zeros (suc k) (2 ^ suc k - 1 - n)
    low l =
        let q : n / 2 ^ k ≡ 0 = div-eq_of_lt l in
        rw q (sym (lead_high k (2 ^ suc k - 1 - n) (omega (arith, p)) (omega (arith, p))))

    high : 2 ^ k ≤ n → (n - 2 ^ k < 2 ^ k → front_ones (num_bits k (n - 2 ^ k)) ≡ count_leading_zeros k (2 ^ k - 1 - (n - 2 ^ k))) →
        front_ones (num_bits (suc k) n) ≡ count_leading_zeros (suc k) (2 ^ suc k - 1 - n)
    high g ih =
        let q : n / 2 ^ k ≡ 1 = div-eq_of_lt-le (2 ^ k) (omega arith) (omega (arith, p)) in
        let s : n - 2 ^ k < 2 ^ k = omega (arith, p) in
        let r : n % 2 ^ k ≡ n - 2 ^ k = mod-eq-sub-mod g ∙ mod-eq_of_lt s in
        let b : num_bits k n ≡ num_bits k (n - 2 ^ k) = sym (num_bits_mod k k n (le_refl k)) ∙ ap (λ (x : ℕ). num_bits k x) r in
        let c : 2 ^ suc k - 1 - n ≡ 2 ^ k - 1 - (n - 2 ^ k) = omega (arith, p) in
        let d : count_leading_zeros (suc k) (2 ^ suc k - 1 - n) ≡ suc (count_leading_zeros k (2 ^ k - 1 - (n - 2 ^ k))) =
        ap (λ (x : ℕ). count_leading_zeros (suc k) x) c ∙ lead_low k (2 ^ k - 1 - (n - 2 ^ k)) (omega arith) in
        rw q (ap suc (ap front_ones b ∙ ih s) ∙ sym d)
