-- 02's words on a list of tile numbers, as facts: the tests of specs/Plan say just these (specs/laws/Request).
-- (01 is this project's scope document, 02 its change requests, 001 is MS-RDPRFX: README, "What 01 is".)
use Rattle.std.specs.Prelude.{ℕ, ◌+◌, ◌*◌, ◌/◌, ◌<◌, ◌≡◌, true, List, length, get_or}
use Rattle.frame_pieces.specs.Parts.{tiles_no}
use Rattle.tile_forth.specs.TileForth.{pixel_place}
use Rattle.plan.specs.Plan.{tile_column, tile_row, filled_at, is_listed, Pictures}

-- ---- a tile

-- its "filled-up RGB bytes" do not differ
abbrev pub Unchanged : List ℕ → List ℕ → ℕ → ℕ → ℕ → Type 0
Unchanged old new w h k = (j : ℕ) → j < 64 * 64 * 3 → filled_at old w h k j ≡ filled_at new w h k j

-- a pixel of tile k inside the picture
pub record PixelOf (w h k x y : ℕ) : Type 0 where
  pub inside_x : x < w
  pub inside_y : y < h
  pub column : x / 64 ≡ tile_column w k
  pub row : y / 64 ≡ tile_row w k

-- the byte at a place is the same in both pictures
abbrev pub SameByte : List ℕ → List ℕ → ℕ → Type 0
SameByte old new i = get_or old i 0 ≡ get_or new i 0

-- a pixel's three bytes are
abbrev pub SamePixel : List ℕ → List ℕ → ℕ → ℕ → ℕ → Type 0
SamePixel old new w x y = (c : ℕ) → c < 3 → SameByte old new (pixel_place w x y + c)

-- ---- a list

-- "strictly rising"
abbrev pub StrictlyRising : List ℕ → Type 0
StrictlyRising ks = (i : ℕ) → i + 1 < length ks → get_or ks i 0 < get_or ks (i + 1) 0

-- "all numbers exist", of n tiles
abbrev pub AllExist : ℕ → List ℕ → Type 0
AllExist n ks = (i : ℕ) → i < length ks → get_or ks i 0 < n

-- "every tile whose filled-up RGB bytes differ is listed"
abbrev pub AllListed : List ℕ → List ℕ → ℕ → ℕ → List ℕ → Type 0
AllListed old new w h ks = (k : ℕ) → k < tiles_no w h → (Unchanged old new w h k → ⊥) → is_listed k ks ≡ true

-- a list that contains another
abbrev pub Contains : List ℕ → List ℕ → Type 0
Contains ks js = (k : ℕ) → is_listed k js ≡ true → is_listed k ks ≡ true

-- what 02 accepts
pub record Acceptable (w h : ℕ) (old new ks : List ℕ) : Type 0 where
  pub pictures : Pictures w h old new
  pub order : StrictlyRising ks
  pub exist : AllExist (tiles_no w h) ks
  pub all : AllListed old new w h ks
