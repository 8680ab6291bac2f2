-- Laws of one line forth: what a turn stores, which places it looks at, how far its numbers can grow.
use Rattle.std.specs.Prelude.{◌≡◌, ℕ, ◌+◌, ◌*◌, ◌-◌, min, ◌<◌, ℤ}
use Rattle.std.proofs.Common.{◌∙◌, arith}
use Rattle.whole.specs.laws.Near.{Near, add_near, sub_near, half_near, wide_near, ap3}
use Rattle.wave_forth.specs.Halves.{high_z, low_z, line_high, line_low}

-- what a turn stores, from the numbers that it read
pub high_step :
    (N : ℕ) (x : ℕ → ℤ) (n : ℕ) {o e f z : ℤ} → z ≡ high_z o e f → o ≡ x (2 * n + 1) → e ≡ x (2 * n) → f ≡ x (2 * min (n + 1) (N - 1)) → z ≡ line_high N x n
unfolding line_high
high_step N x n u p q r = u ∙ ap3 high_z p q r

pub low_step : (N : ℕ) (x : ℕ → ℤ) (n : ℕ) {e g h z : ℤ} → z ≡ low_z e g h → e ≡ x (2 * n) → g ≡ line_high N x (n - 1) → h ≡ line_high N x n → z ≡ line_low N
    x n
unfolding line_low
low_step N x n u p q r = u ∙ ap3 low_z p q r

-- a line looks at places below 2N only
pub high_cong : (N : ℕ) (x y : ℕ → ℤ) → ((k : ℕ) → k < 2 * N → x k ≡ y k) → (n : ℕ) → n < N → line_high N x n ≡ line_high N y n
unfolding line_high
high_cong N x y p n h = ap3 high_z (p (2 * n + 1) (omega arith)) (p (2 * n) (omega arith)) (p (2 * min (n + 1) (N - 1)) (omega arith))

pub low_cong : (N : ℕ) (x y : ℕ → ℤ) → ((k : ℕ) → k < 2 * N → x k ≡ y k) → (n : ℕ) → n < N → line_low N x n ≡ line_low N y n
unfolding line_low
low_cong N x y p n h = ap3 low_z (p (2 * n) (omega arith)) (high_cong N x y p (n - 1) (omega arith)) (high_cong N x y p n h)

-- H stays within the bound of x, L within twice that
pub high_near : {B : ℕ} (N : ℕ) (x : ℕ → ℤ) → ((k : ℕ) → Near B (x k)) → (n : ℕ) → Near B (line_high N x n)
unfolding line_high
high_near {B} N x p n = wide_near (omega arith) (half_near (sub_near (p (2 * n + 1)) (half_near (add_near (p (2 * n)) (p (2 * min (n + 1) (N - 1)))))))

pub low_near : {B : ℕ} (N : ℕ) (x : ℕ → ℤ) → ((k : ℕ) → Near B (x k)) → (n : ℕ) → Near (2 * B) (line_low N x n)
unfolding line_low
low_near {B} N x p n = wide_near (omega arith) (add_near (p (2 * n)) (half_near (add_near (high_near N x p (n - 1)) (high_near N x p n))))
