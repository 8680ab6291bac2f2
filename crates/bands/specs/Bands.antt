-- Document 01, "Bands and the wavelet": quantiser sets, the bands of the list, LL3's sums, scaling and the range.
-- Assumes nothing.
-- (01 is this project's scope document, 02 its change requests, 001 is MS-RDPRFX: README, "What 01 is".)
use Rattle.std.specs.Prelude.{ℕ, zero, suc, ◌+◌, ◌-◌, ◌/◌, ◌%◌, ◌^◌, ◌≤◌, ◌<◌, Bool, true, ◌&&◌, List, [], ◌∷◌, ◌++◌, ltb, leb, ℤ, pos, nat_abs, ◌+ℤ◌, ◌*ℤ◌}
use Rattle.std.specs.Prelude.{length, get_or, take}
use Rattle.whole.specs.Row.{◌!◌⨾◌, ◌⇒◌∣◌, ◌⨟◌}
use Rattle.whole.specs.Tab.{at, table}
use Rattle.bands.specs.declared.Band.{Band}

-- "A quantiser set is five bytes, low half first, ten values"
unfoldable pub quant_of : List ℕ → List ℕ
quant_of [] = []
quant_of (b ∷ bs) = b % 16 ∷ b / 16 ∷ quant_of bs

-- "7 quant: a quantiser outside 6 to 15"
pub record QuantGood (q : List ℕ) : Type 0 where
  pub low : (i : ℕ) → i < 10 → 6 ≤ get_or q i 0
  pub high : (i : ℕ) → i < 10 → get_or q i 0 ≤ 15

-- the same as a test: the first n values of a set are from 6 to 15
unfoldable pub good_to : List ℕ → ℕ → Bool
good_to q zero = true
good_to q (suc n) = good_to q n && (leb 6 (get_or q n 0) && leb (get_or q n 0) 15)

abbrev pub is_good : List ℕ → Bool
is_good q = good_to q 10

-- a band: where in the set its quantiser stands, "LL3, LH3, HL3, HH3, LH2, HL2, HH2, LH1, HL1, HH1" from 0 on, and where it ends in the list
abbrev band : ℕ → ℕ → Band
band set end = record { set = set; end = end }

-- "The list holds HL1, LH1, HH1 (1,024 each), HL2, LH2, HH2 (256), HL3, LH3, HH3, LL3 (64)": those before LL3
unfoldable pub bands : List Band
bands =
    band 8 1024 ∷ band 7 2048 ∷ band 9 3072 ∷
    band 5 3328 ∷ band 4 3584 ∷ band 6 3840 ∷
    band 2 3904 ∷ band 1 3968 ∷ band 3 4032 ∷ []

-- the first of them that ends behind place k; behind all of them stands LL3
unfoldable pub first_band : List Band → ℕ → Band
first_band [] k = band 0 4096
first_band (b ∷ bs) k = ltb k b.end ⇒ b ∣ first_band bs k

-- the band of place k
unfoldable pub band_at : ℕ → Band
band_at k = first_band bands k

abbrev pub band_of : ℕ → ℕ
band_of k = (band_at k).set

-- the quantiser of place k, of a set of ten
abbrev pub quant_at : List ℕ → ℕ → ℕ
quant_at q k = get_or q (band_of k) 0

-- "9 range: outside -32,767 to 32,767" is where this is false
unfoldable pub in_range : ℤ → Bool
in_range z = leb (nat_abs z) 32767

-- f 0 to f (n - 1) are in range
unfoldable pub all_in : (ℕ → ℤ) → ℕ → Bool
all_in f zero = true
all_in f (suc n) = all_in f n && in_range (f n)

-- f 0 + .. + f (n - 1)
unfoldable pub sum_to : (ℕ → ℤ) → ℕ → ℤ
sum_to f zero = pos 0
sum_to f (suc n) = sum_to f n +ℤ f n

-- LL3 by its places: the last 64 of the list
abbrev pub ll3 : List ℤ → ℕ → ℤ
ll3 xs i = at xs (4032 + i)

-- "LL3 holds its first value and then differences; sum first": the value at place i of LL3
unfoldable pub sums_of : List ℤ → ℕ → ℤ
sums_of xs i = sum_to (ll3 xs) (i + 1)

unfoldable pub sums_fault : List ℤ → ℕ
sums_fault xs = all_in (sums_of xs) 64 ! 9 ⨾ 0

unfoldable pub summed : List ℤ → List ℤ
summed xs = take 4032 xs ++ table 64 (sums_of xs)

-- "Scaling is times 2^(q-1)", each place by its own band's quantiser
abbrev pub scale_at : List ℕ → (ℕ → ℤ) → ℕ → ℤ
scale_at q f k = f k *ℤ pos (2 ^ (quant_at q k - 1))

unfoldable pub scale_fault : List ℕ → List ℤ → ℕ
scale_fault q xs = all_in (scale_at q (at xs)) 4096 ! 9 ⨾ 0

unfoldable pub scaled_by : List ℕ → List ℤ → List ℤ
scaled_by q xs = table 4096 (scale_at q (at xs))

-- "9 range: a coefficient, LL3 sum or scaled value", for a whole list: "9 (as the reader would judge)"
unfoldable pub range_fault : List ℤ → ℕ
range_fault xs = all_in (at xs) (length xs) ! 9 ⨾ 0

unfoldable pub coefficients_fault : List ℕ → List ℤ → ℕ
coefficients_fault q xs = range_fault xs ⨟ sums_fault xs ⨟ scale_fault q (summed xs)
