-- One line of the way back (01, "Bands and the wavelet"; 001, 3.1.8.2.4). L and H are the low and the high half, N numbers each.
-- "Whole numbers, never wrapped."
-- (01 is this project's scope document, 02 its change requests, 001 is MS-RDPRFX: README, "What 01 is".)
use Rattle.std.specs.Prelude.{ℕ, zero, suc, ◌+◌, ◌*◌, ◌-◌, ◌/◌, ◌%◌, min, ℤ, pos, ◌+ℤ◌, ◌-ℤ◌, ◌*ℤ◌}
use Rattle.std.specs.Int.Signed.{shr_z, quot_z}

-- "floors throughout": floor(z / 2)
abbrev pub half_z : ℤ → ℤ
half_z z = shr_z z 2

-- z / 2 toward zero
abbrev pub cut_z : ℤ → ℤ
cut_z z = quot_z z (pos 2)

-- The average of the odd step. 01 has floor((x[2n] + x[2n+2])/2); "if it disagrees with a rule here, its decoded values decide": the sample
-- of 001, 4.2 has, along a row, the sum over 2 toward zero, and down a column the sum of both halves, each toward zero.
abbrev pub row_avg : ℤ → ℤ → ℤ
row_avg x y = cut_z (x +ℤ y)

abbrev pub col_avg : ℤ → ℤ → ℤ
col_avg x y = cut_z x +ℤ cut_z y

-- "x[2n] = L[n] - floor((H[n-1] + H[n] + 1)/2)": l is L[n], g is H[n-1], h is H[n]
abbrev pub even_z : ℤ → ℤ → ℤ → ℤ
even_z l g h = l -ℤ half_z (g +ℤ h +ℤ pos 1)

-- "x[2n+1] = 2H[n] + floor((x[2n] + x[2n+2])/2)", with the average avg for the floor: x is x[2n], y is x[2n+2]
abbrev pub odd_z : (ℤ → ℤ → ℤ) → ℤ → ℤ → ℤ → ℤ
odd_z avg h x y = pos 2 *ℤ h +ℤ avg x y

-- x[2n]. "H[-1] is H[0]": 0 - 1 is 0 here
unfoldable pub even_at : (ℕ → ℤ) → (ℕ → ℤ) → ℕ → ℤ
even_at L H n = even_z (L n) (H (n - 1)) (H n)

-- x[2n + 1] from the even places E. "x past the end is the last even x"
unfoldable pub odd_at : (ℤ → ℤ → ℤ) → ℕ → (ℕ → ℤ) → (ℕ → ℤ) → ℕ → ℤ
odd_at avg N H E n = odd_z avg (H n) (E n) (E (min (n + 1) (N - 1)))

abbrev pub by_parity : ℕ → ℤ → ℤ → ℤ
by_parity zero a b = a
by_parity (suc m) a b = b

-- x[k]
unfoldable pub line_at : (ℤ → ℤ → ℤ) → ℕ → (ℕ → ℤ) → (ℕ → ℤ) → ℕ → ℤ
line_at avg N L H k = by_parity (k % 2) (even_at L H (k / 2)) (odd_at avg N H (even_at L H) (k / 2))

-- row r, place x of the rows of two bands, N by N each, "each row by row"
abbrev pub row_at : ℕ → (ℕ → ℤ) → (ℕ → ℤ) → ℕ → ℕ → ℤ
row_at N L H r x = line_at row_avg N (λ c. L (r * N + c)) (λ c. H (r * N + c)) x
