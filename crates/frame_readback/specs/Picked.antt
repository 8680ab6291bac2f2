-- What the glass shows after a frame of some tiles, each sent by its number: 02's request Eleven. Of all tiles it is `Own` (laws/OurFrames).
-- (01 is this project's scope document, 02 its change requests, 001 is MS-RDPRFX: README, "What 01 is".)
use Rattle.std.specs.Prelude.{ℕ, ◌+◌, ◌*◌, ◌%◌, ◌≤◌, ◌<◌, ◌≡◌, List, length, get_or, Result}
use Rattle.wire.specs.Refusal.{count_of, number_of}
use Rattle.wire.specs.declared.Refusal.{Refusal}
use Rattle.quants.specs.declared.Quants.{Quants}
use Rattle.frame_readback.specs.Own.{word_over, tile_no}

-- n tiles; at every place of one of them the decoded word, and nothing else changed
pub record ShownPicked (glass : ℕ) (p : List ℕ) (w h : ℕ) (q : Quants) (n : ℕ) (pick : ℕ → ℕ) (pic pic' : List ℕ) (r : Result ℕ Refusal) : Type 0 where
  pub number : number_of r ≡ 0
  pub tiles : count_of r ≡ n
  pub word :
      (px py : ℕ) → px < w → py < h → (i : ℕ) → i < n → pick i ≡ tile_no w px py →
      get_or pic' (py * w + px) 0 ≡ word_over glass p w h q (tile_no w px py) (64 * (py % 64) + px % 64)
  pub others :
      (px py : ℕ) → px < w → py < h → ((i : ℕ) → i < n → pick i ≡ tile_no w px py → ⊥) → get_or pic' (py * w + px) 0 ≡ get_or pic (py * w + px) 0
  pub past : (i : ℕ) → h * w ≤ i → get_or pic' i 0 ≡ get_or pic i 0
  pub long : length pic' ≡ length pic
