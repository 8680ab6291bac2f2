-- Document 01, "Bands and the wavelet": what the writer makes of the wavelet's values.
-- Assumes nothing.
-- (01 is this project's scope document, 02 its change requests, 001 is MS-RDPRFX: README, "What 01 is".)
use Rattle.std.specs.Prelude.{ℕ, zero, suc, ◌-◌, ◌^◌, List, ◌++◌, ℤ, pos, ◌+ℤ◌, ◌-ℤ◌, take}
use Rattle.std.specs.Int.Signed.{shr_z}
use Rattle.whole.specs.Tab.{at, table}
use Rattle.bands.specs.Bands.{quant_at, ll3}

-- floor((v + 2^(q-2)) / 2^(q-1))
abbrev pub round_z : ℕ → ℤ → ℤ
round_z q v = shr_z (v +ℤ pos (2 ^ (q - 2))) (2 ^ (q - 1))

-- "the writer takes floor((v + 2^(q-2)) / 2^(q-1))", each place by its own band's quantiser
abbrev pub round_at : List ℕ → (ℕ → ℤ) → ℕ → ℤ
round_at q f k = round_z (quant_at q k) (f k)

-- "its first value and then differences"
unfoldable pub diff_at : (ℕ → ℤ) → ℕ → ℤ
diff_at f zero = f zero
diff_at f (suc n) = f (suc n) -ℤ f n

-- "then the LL3 differences"
unfoldable pub differences : List ℤ → List ℤ
differences xs = take 4032 xs ++ table 64 (diff_at (ll3 xs))

-- the list that the writer codes
unfoldable pub rounded_by : List ℕ → List ℤ → List ℤ
rounded_by q xs = differences (table 4096 (round_at q (at xs)))
