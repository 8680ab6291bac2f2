-- What the functions on the way there are said by: places counted that are above a limit in size, and the limits.
-- Assumes nothing.
use Rattle.std.specs.Prelude.{ℕ, zero, suc, ◌+◌, ◌-◌, ◌/◌, ◌^◌, List, leb, ℤ, nat_abs}
use Rattle.whole.specs.Row.{◌⇒◌∣◌}
use Rattle.bands.specs.Bands.{quant_at}

-- 1 where a number is above a limit in size
unfoldable pub over_of : ℕ → ℤ → ℕ
over_of m z = leb (nat_abs z) m ⇒ 0 ∣ 1

-- how many of f 0 to f (n - 1) are above their limits
unfoldable pub overs : (ℕ → ℕ) → (ℕ → ℤ) → ℕ → ℕ
overs m f zero = 0
overs m f (suc n) = overs m f n + over_of (m n) (f n)

-- the largest size that stays in range when it is scaled, by the quantiser
unfoldable pub limit_of : ℕ → ℕ
limit_of n = 32767 / 2 ^ (n - 1)

-- that of place k
abbrev pub limit_at : List ℕ → ℕ → ℕ
limit_at q k = limit_of (quant_at q k)
