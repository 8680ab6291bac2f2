-- What the glass, of 16 bits (0) or of 32 (1), shows after a frame of our own writer: 01's decoding of the given picture's rounded coefficients.
-- (01 is this project's scope document, 02 its change requests, 001 is MS-RDPRFX: README, "What 01 is".)
use Rattle.std.specs.Prelude.{ℕ, ◌+◌, ◌*◌, ◌/◌, ◌%◌, ◌≤◌, ◌<◌, ◌≡◌, List, ℤ, length, get_or, Result}
use Rattle.wire.specs.Refusal.{count_of, number_of}
use Rattle.wire.specs.declared.Refusal.{Refusal}
use Rattle.bands.specs.Bands.{summed, scaled_by}
use Rattle.quants.specs.Quants.{quant_for}
use Rattle.quants.specs.declared.Quants.{Quants}
use Rattle.wave_back.specs.Tile.{tile_back}
use Rattle.tile_back.specs.Word.{word_at}
use Rattle.frame_pieces.specs.Parts.{cols_of, tiles_no}
use Rattle.frame_write.specs.Encode.{list_of}

-- the samples that decoding gives for component c of tile k of the given pixels: LL3 summed, scaled, the wavelet's way back
unfoldable pub samples_back : List ℕ → ℕ → ℕ → List ℕ → ℕ → ℕ → List ℤ
samples_back p w h q k c = tile_back (scaled_by q (summed (list_of p w h q k c)))

-- the word of place i of tile k, on a glass
unfoldable pub word_back : ℕ → List ℕ → ℕ → ℕ → List ℕ → ℕ → ℕ → ℕ
word_back glass p w h q k i = word_at glass (samples_back p w h q k 0) (samples_back p w h q k 1) (samples_back p w h q k 2) i

-- the same over luma's and chroma's quantisers, each component by its own
unfoldable pub word_over : ℕ → List ℕ → ℕ → ℕ → Quants → ℕ → ℕ → ℕ
word_over glass p w h q k i =
    word_at glass (samples_back p w h (quant_for q 0).v k 0) (samples_back p w h (quant_for q 1).v k 1) (samples_back p w h (quant_for q 2).v k 2) i

-- the tile of a pixel: "all tiles row by row"
unfoldable pub tile_no : ℕ → ℕ → ℕ → ℕ
tile_no w px py = py / 64 * cols_of w + px / 64

-- what is shown: as many tiles as the picture has, at every place of the channel the decoded word, and nothing else changed
pub record Shown (glass : ℕ) (p : List ℕ) (w h : ℕ) (q pic pic' : List ℕ) (r : Result ℕ Refusal) : Type 0 where
  pub number : number_of r ≡ 0
  pub tiles : count_of r ≡ tiles_no w h
  pub word : (px py : ℕ) → px < w → py < h → get_or pic' (py * w + px) 0 ≡ word_back glass p w h q (tile_no w px py) (64 * (py % 64) + px % 64)
  pub past : (i : ℕ) → h * w ≤ i → get_or pic' i 0 ≡ get_or pic i 0
  pub long : length pic' ≡ length pic

-- the same of a frame over luma's and chroma's quantisers
pub record ShownOver (glass : ℕ) (p : List ℕ) (w h : ℕ) (q : Quants) (pic pic' : List ℕ) (r : Result ℕ Refusal) : Type 0 where
  pub number : number_of r ≡ 0
  pub tiles : count_of r ≡ tiles_no w h
  pub word : (px py : ℕ) → px < w → py < h → get_or pic' (py * w + px) 0 ≡ word_over glass p w h q (tile_no w px py) (64 * (py % 64) + px % 64)
  pub past : (i : ℕ) → h * w ≤ i → get_or pic' i 0 ≡ get_or pic i 0
  pub long : length pic' ≡ length pic
