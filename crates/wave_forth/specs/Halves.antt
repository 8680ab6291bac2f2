-- One line of the way forth (01, "Bands and the wavelet"; 001, 3.1.8.1.4), with floors: the two halves of 2N numbers.
-- (01 is this project's scope document, 02 its change requests, 001 is MS-RDPRFX: README, "What 01 is".)
use Rattle.std.specs.Prelude.{ℕ, ◌+◌, ◌*◌, ◌-◌, min, ℤ, ◌+ℤ◌, ◌-ℤ◌}
use Rattle.wave_back.specs.Line.{half_z}

-- "H[n] = floor((x[2n+1] - floor((x[2n] + x[2n+2])/2))/2)": o is x[2n+1], e is x[2n], f is x[2n+2]
abbrev pub high_z : ℤ → ℤ → ℤ → ℤ
high_z o e f = half_z (o -ℤ half_z (e +ℤ f))

-- "L[n] = x[2n] + floor((H[n-1] + H[n])/2)": e is x[2n], g is H[n-1], h is H[n]
abbrev pub low_z : ℤ → ℤ → ℤ → ℤ
low_z e g h = e +ℤ half_z (g +ℤ h)

-- H[n] of a line x of 2N numbers. "x past the end is the last even x"
unfoldable pub line_high : ℕ → (ℕ → ℤ) → ℕ → ℤ
line_high N x n = high_z (x (2 * n + 1)) (x (2 * n)) (x (2 * min (n + 1) (N - 1)))

-- L[n]. "H[-1] is H[0]": 0 - 1 is 0 here
unfoldable pub line_low : ℕ → (ℕ → ℤ) → ℕ → ℤ
line_low N x n = low_z (x (2 * n)) (line_high N x (n - 1)) (line_high N x n)
