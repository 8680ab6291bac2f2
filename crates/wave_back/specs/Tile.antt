-- The way back of one component's tile (01, "Bands and the wavelet"; 001, 3.1.8.2.4).
-- (01 is this project's scope document, 02 its change requests, 001 is MS-RDPRFX: README, "What 01 is".)
use Rattle.std.specs.Prelude.{List, ◌++◌, ℕ, ◌+◌, ◌*◌, ℤ, take, drop}
use Rattle.whole.specs.Tab.{at, grid}
use Rattle.wave_back.specs.Line.{col_avg, line_at, row_at}

-- "The list holds HL1, LH1, HH1 (1,024 each), HL2, LH2, HH2 (256), HL3, LH3, HH3, LL3 (64), each row by row." So a level's bands stand one after
-- the other, HL, LH, HH and LL, N by N each, and what a level gives is the LL of the next.
-- "Rows first (LL with HL, LH with HH)": place x of row r of the low and of the high half
abbrev pub low_at : ℕ → (ℕ → ℤ) → ℕ → ℕ → ℤ
low_at N f r x = row_at N (λ k. f (3 * (N * N) + k)) f r x

abbrev pub high_at : ℕ → (ℕ → ℤ) → ℕ → ℕ → ℤ
high_at N f r x = row_at N (λ k. f (N * N + k)) (λ k. f (2 * (N * N) + k)) r x

-- "then columns": place x of row y
abbrev pub level_at : ℕ → (ℕ → ℤ) → ℕ → ℕ → ℤ
level_at N f y x = line_at col_avg N (λ r. low_at N f r x) (λ r. high_at N f r x) y

-- one level, from 4 N N numbers to 2 N rows of 2 N
unfoldable pub level : ℕ → List ℤ → List ℤ
level N xs = grid (2 * N) (2 * N) (level_at N (at xs))

-- the whole tile: level 3 stands on the last 256 of the 4,096 numbers, level 2 on the last 1,024, level 1 on all
unfoldable pub tile_back : List ℤ → List ℤ
tile_back xs = level 32 (take 3072 xs ++ level 16 (take 768 (drop 3072 xs) ++ level 8 (drop 3840 xs)))
