-- The way forth of one component's tile (01, "Bands and the wavelet"; 001, 3.1.8.1.4).
-- (01 is this project's scope document, 02 its change requests, 001 is MS-RDPRFX: README, "What 01 is".)
use Rattle.std.specs.Prelude.{List, ◌++◌, ℕ, ◌+◌, ◌*◌, ℤ, take, drop}
use Rattle.whole.specs.Tab.{at, grid}
use Rattle.wave_forth.specs.Halves.{line_high, line_low}

-- "columns first": place x of row r of the low and of the high half, from 2N rows of 2N
abbrev pub low_row : ℕ → (ℕ → ℤ) → ℕ → ℕ → ℤ
low_row N f r x = line_low N (λ y. f (y * (2 * N) + x)) r

abbrev pub high_row : ℕ → (ℕ → ℤ) → ℕ → ℕ → ℤ
high_row N f r x = line_high N (λ y. f (y * (2 * N) + x)) r

-- then rows: the low rows give LL and HL, the high rows LH and HH, as the way back takes them. The bands stand as HL, LH, HH, LL
unfoldable pub level_forth : ℕ → List ℤ → List ℤ
level_forth N xs =
    grid N N (λ r c. line_high N (low_row N (at xs) r) c)
    ++ (grid N N (λ r c. line_low N (high_row N (at xs) r) c)
    ++ (grid N N (λ r c. line_high N (high_row N (at xs) r) c)
    ++ grid N N (λ r c. line_low N (low_row N (at xs) r) c)))

-- one level on the end of the list, from place a on: the LL before it
abbrev pub forth_from : ℕ → ℕ → List ℤ → List ℤ
forth_from a N xs = take a xs ++ level_forth N (drop a xs)

-- "The list holds HL1, LH1, HH1 (1,024 each), HL2, LH2, HH2 (256), HL3, LH3, HH3, LL3 (64), each row by row."
unfoldable pub tile_forth : List ℤ → List ℤ
tile_forth xs = forth_from 3840 8 (forth_from 3072 16 (forth_from 0 32 xs))
