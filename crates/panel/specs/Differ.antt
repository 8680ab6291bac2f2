-- The tile that differs next, as a C program meets it: the number is returned, the tile and its line are stored behind the last four references. The two calls
-- that count promise what `tile_diff` does (`TilesCounted`).
-- (01 is this project's scope document, 02 its change requests, 001 is MS-RDPRFX: README, "What 01 is".)
use Rattle.std.specs.Prelude.{ℕ, ◌≡◌, List}
use Rattle.tile_diff.specs.Pictures.{found_from}

pub record NextTileCall (w h : ℕ) (cs : List ℕ) (from tile x y n number : ℕ) : Type 0 where
  pub said : number ≡ (found_from cs w h from).number
  pub tile_is : tile ≡ (found_from cs w h from).tile
  pub column : x ≡ (found_from cs w h from).x
  pub row : y ≡ (found_from cs w h from).y
  pub count : n ≡ (found_from cs w h from).n
