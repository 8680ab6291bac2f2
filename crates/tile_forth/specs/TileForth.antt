-- A tile of the frame writer, from the picture's bytes to the list that one component's code is of (01, "The frame writer", "Colour", "Bands and the wavelet").
-- Assumes nothing.
-- (01 is this project's scope document, 02 its change requests, 001 is MS-RDPRFX: README, "What 01 is".)
use Rattle.std.specs.Prelude.{ℕ, ◌+◌, ◌*◌, ◌-◌, ◌/◌, ◌%◌, min, List, eqb, ℤ, get_or}
use Rattle.whole.specs.Row.{◌⇒◌∣◌}
use Rattle.whole.specs.Tab.{table}
use Rattle.colour.specs.Colour.{luma_of, cb_of, cr_of}
use Rattle.wave_forth.specs.Forth.{tile_forth}
use Rattle.bands.specs.Rounding.{rounded_by}

-- component c of a pixel: 0 is Y, 1 is Cb, 2 is Cr
unfoldable pub component_of : ℕ → ℕ → ℕ → ℕ → ℤ
component_of c r g b =
    eqb c 0 ⇒ luma_of r g b ∣
    eqb c 1 ⇒ cb_of r g b ∣
    cr_of r g b

-- "edge tiles filled by repeating the last column and row": of n columns or rows, the one that is taken for k
abbrev pub edge : ℕ → ℕ → ℕ
edge n k = min k (n - 1)

-- "three bytes a pixel (R, G, B)", row by row, w pixels a row: where the pixel (x, y) starts
abbrev pub pixel_place : ℕ → ℕ → ℕ → ℕ
pixel_place w x y = 3 * (y * w + x)

-- component c of the pixel whose bytes start at a place
unfoldable pub bytes_at : List ℕ → ℕ → ℕ → ℤ
bytes_at pixels c p = component_of c (get_or pixels p 0) (get_or pixels (p + 1) 0) (get_or pixels (p + 2) 0)

-- place i of the tile (tx, ty) of a picture of w by h pixels: 64 rows of 64
unfoldable pub sample_at : List ℕ → ℕ → ℕ → ℕ → ℕ → ℕ → ℕ → ℤ
sample_at pixels w h tx ty c i = bytes_at pixels c (pixel_place w (edge w (64 * tx + i % 64)) (edge h (64 * ty + i / 64)))

-- the list of component c of that tile: its samples, the wavelet's way forth, rounding and LL3's differences
unfoldable pub rounded_of : List ℕ → ℕ → ℕ → List ℕ → ℕ → ℕ → ℕ → List ℤ
rounded_of pixels w h q tx ty c = rounded_by q (tile_forth (table 4096 (sample_at pixels w h tx ty c)))
