-- One component of a tile, from its code to its 64 x 64 samples (01, "Order": "then Y, Cb, Cr: code, then LL3 sums and scaling (9)").
-- (01 is this project's scope document, 02 its change requests, 001 is MS-RDPRFX: README, "What 01 is".)
use Rattle.std.specs.Prelude.{ℕ, ◌≡◌, List, ℤ}
use Rattle.whole.specs.Row.{◌⨟◌}
use Rattle.bands.specs.Bands.{sums_fault, summed, scale_fault, scaled_by}
use Rattle.code.specs.Read.{read_fault, decoded, read_into}
use Rattle.wave_back.specs.Tile.{tile_back}

-- the first fault of a component: of the mode, its quantisers (ten values) and the bytes of its code
unfoldable pub component_fault : ℕ → List ℕ → List ℕ → ℕ
component_fault mode q s =
    read_fault mode 4096 s ⨟
    sums_fault (decoded mode s) ⨟
    scale_fault q (summed (decoded mode s))

-- "sum first, then scale"
unfoldable pub coefficients_of : ℕ → List ℕ → List ℕ → List ℤ
coefficients_of mode q s = scaled_by q (summed (decoded mode s))

unfoldable pub samples_of : ℕ → List ℕ → List ℕ → List ℤ
samples_of mode q s = tile_back (coefficients_of mode q s)

-- what the check pass says and leaves, for every code and list: the number; and the list as the component reader leaves it (nothing is summed or
-- scaled there)
pub record Checked (mode : ℕ) (q s : List ℕ) (before after : List ℤ) (r : ℕ) : Type 0 where
  pub number : r ≡ component_fault mode q s
  pub list : after ≡ read_into mode s before
