-- What the frame writer is to write, and what it refuses. 01, last paragraph of "Colour".
-- (01 is this project's scope document, 02 its change requests, 001 is MS-RDPRFX: README, "What 01 is".)
use Rattle.std.specs.Prelude.{ℕ, zero, suc, ◌+◌, ◌*◌, ◌/◌, ◌%◌, ◌≤◌, ◌≡◌, List, leb, ℤ, length}
use Rattle.whole.specs.Row.{◌!◌⨾◌, ◌⨟◌}
use Rattle.frame_layout.specs.Bytes.{Tile, frame_of}
use Rattle.bands.specs.Bands.{QuantGood, coefficients_fault}
use Rattle.code_write.specs.Write.{bytes_of}
use Rattle.frame_pieces.specs.Parts.{tile_with, cols_of, tiles_no}
use Rattle.tile_forth.specs.TileForth.{rounded_of}

-- "all tiles row by row": tile k stands in column k % cols of row k / cols; the list of its component c (0 is Y, 1 Cb, 2 Cr)
unfoldable pub list_of : List ℕ → ℕ → ℕ → List ℕ → ℕ → ℕ → List ℤ
list_of p w h q k c = rounded_of p w h q (k % cols_of w) (k / cols_of w) c

-- its bytes
unfoldable pub tile_part : List ℕ → ℕ → ℕ → ℕ → List ℕ → ℕ → ℕ → List ℕ
tile_part p w h mode q k c = bytes_of mode (list_of p w h q k c)

-- "one quantiser set": every index is 0
unfoldable pub picture_tile : List ℕ → ℕ → ℕ → ℕ → List ℕ → ℕ → Tile
picture_tile p w h mode q k = tile_with 0 (k % cols_of w) (k / cols_of w) (tile_part p w h mode q k 0) (tile_part p w h mode q k 1) (tile_part p w h mode q k 2)

-- "one rectangle over the whole, frameIdx as given, flags 0 (region flags 1)": the frame's bytes
unfoldable pub picture_frame : ℕ → ℕ → ℕ → ℕ → List ℕ → List ℕ → List ℕ
picture_frame idx w h mode q p = frame_of idx w h mode q (tiles_no w h) (picture_tile p w h mode q)

-- "per component in order 9 (as the reader would judge) then 6", which is given over "65,535 bytes in a component"
unfoldable pub part_refusal : ℕ → List ℕ → List ℤ → ℕ
part_refusal mode q zs = coefficients_fault q zs ⨟ (leb (length (bytes_of mode zs)) 65535 ! 6 ⨾ 0)

unfoldable pub tile_refusal : List ℕ → ℕ → ℕ → ℕ → List ℕ → ℕ → ℕ
tile_refusal p w h mode q k =
    part_refusal mode q (list_of p w h q k 0) ⨟
    (part_refusal mode q (list_of p w h q k 1) ⨟
    part_refusal mode q (list_of p w h q k 2))

-- the first of n tiles from the i-th on
unfoldable pub refusals : List ℕ → ℕ → ℕ → ℕ → List ℕ → ℕ → ℕ → ℕ
refusals p w h mode q zero i = 0
refusals p w h mode q (suc n) i = tile_refusal p w h mode q i ⨟ refusals p w h mode q n (i + 1)

-- a picture that the writer takes: size, pixels and quantisers are in order
pub record Picture (p : List ℕ) (w h : ℕ) (q : List ℕ) : Type 0 where
  pub wide : 1 ≤ w
  pub wider : w ≤ 4096
  pub high : 1 ≤ h
  pub higher : h ≤ 2048
  pub pixels : length p ≡ 3 * (w * h)
  pub quants : QuantGood q
