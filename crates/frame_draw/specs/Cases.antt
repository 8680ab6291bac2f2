-- Document 02, request Three: "Add a case with count 0 and one with a single rectangle of width 0, which still draws nothing." Both on a
-- channel of 64 x 64 and its one tile, whatever the tile's words and the picture.
-- (01 is this project's scope document, 02 its change requests, 001 is MS-RDPRFX: README, "What 01 is".)
use Rattle.std.specs.Prelude.{ℕ, ◌+◌, ◌*◌, ◌≤◌, ◌<◌, ◌≡◌, List, [], ◌∷◌, length, get_or}
use Rattle.frame_draw.specs.Draw.{tile_drawn}

-- a single rectangle at 0, 0, of width 0 and height 64
abbrev pub thin : List ℕ
thin = 0 ∷ 0 ∷ 0 ∷ 0 ∷ 0 ∷ 0 ∷ 64 ∷ 0 ∷ []

pub record Cases : Type 0 where
  -- count 0: every word of the channel is the tile's
  pub count_0 :
      (val : ℕ → ℕ) (pic : List ℕ) (px py : ℕ) → 4096 ≤ length pic → px < 64 → py < 64 →
      get_or (tile_drawn [] 0 val 64 64 0 0 pic) (py * 64 + px) 0 ≡ val (64 * py + px)
  -- width 0: the picture is what it was
  pub width_0 : (val : ℕ → ℕ) (pic : List ℕ) → tile_drawn thin 1 val 64 64 0 0 pic ≡ pic
