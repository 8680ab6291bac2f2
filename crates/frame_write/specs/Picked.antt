-- The frame writer over a list of tile numbers: the bytes of a frame of the listed tiles only, and what is refused of them. 02, request Eleven: "then 9, 6
-- and 13 as before, over the listed tiles." Where all tiles are listed it is `Sets` (laws/Picked).
-- (01 is this project's scope document, 02 its change requests, 001 is MS-RDPRFX: README, "What 01 is".)
use Rattle.std.specs.Prelude.{ℕ, zero, suc, ◌+◌, List, [], ◌∷◌, leb, length, get_or}
use Rattle.whole.specs.Row.{◌!◌⨾◌, ◌⨟◌}
use Rattle.quants.specs.Quants.{sets_of}
use Rattle.quants.specs.declared.Quants.{Quants}
use Rattle.frame_layout.specs.Bytes.{frame_of}
use Rattle.frame_pieces.specs.Parts.{tiles_no}
use Rattle.frame_write.specs.Sets.{tile_over, tile_refusal_over}

-- the first of n refusals from the i-th on
unfoldable pub stops_of : (ℕ → ℕ) → ℕ → ℕ → ℕ
stops_of stop zero i = 0
stops_of stop (suc n) i = stop i ⨟ stops_of stop n (i + 1)

-- the frame's bytes: the full frame's, with the listed tiles only, in the list's order
unfoldable pub frame_picked : ℕ → ℕ → ℕ → ℕ → Quants → List ℕ → List ℕ → List ℕ
frame_picked index w h mode q p ks = frame_of index w h mode (sets_of q) (length ks) (λ i. tile_over p w h mode q (get_or ks i 0))

-- 9 and 6, "over the listed tiles"
unfoldable pub refusals_picked : List ℕ → ℕ → ℕ → ℕ → Quants → List ℕ → ℕ
refusals_picked p w h mode q ks = stops_of (λ i. tile_refusal_over p w h mode q (get_or ks i 0)) (length ks) 0

-- and then 13
unfoldable pub send_fault_picked : ℕ → ℕ → ℕ → ℕ → Quants → List ℕ → List ℕ → ℕ → ℕ
send_fault_picked index w h mode q p ks room =
    refusals_picked p w h mode q ks ⨟
    (leb (length (frame_picked index w h mode q p ks)) room ! 13 ⨾ 0)

-- n numbers from the i-th on; the numbers of all tiles, "row by row from 0"
unfoldable pub up_to : ℕ → ℕ → List ℕ
up_to zero i = []
up_to (suc n) i = i ∷ up_to n (i + 1)

unfoldable pub all_tiles : ℕ → ℕ → List ℕ
all_tiles w h = up_to (tiles_no w h) 0
