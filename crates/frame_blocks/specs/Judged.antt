-- The check pass: a component judged by the five bytes of its quantiser set, and what a checked tileset's front gives.
use Rattle.std.specs.Prelude.{ℕ, ◌+◌, ◌*◌, ◌≡◌, List}
use Rattle.frame_layout.specs.Reader.{set_at, quant_count, quants_fault}
use Rattle.frame_blocks.specs.Blocks.{SetGood}
use Rattle.bands.specs.Bands.{quant_of}
use Rattle.tile_back.specs.Component.{component_fault}

-- "code, then LL3 sums and scaling (9)": what layout's frameFault is given as its judge of components
unfoldable pub judged : ℕ → List ℕ → List ℕ → ℕ
judged et five code = component_fault et (quant_of five) code

-- the same within a tileset at a place: the set by its index
unfoldable pub in_set : ℕ → List ℕ → ℕ → ℕ → List ℕ → ℕ
in_set et m at = λ (j : ℕ) (code : List ℕ). judged et (set_at m at j) code

-- what a tileset has whose front was checked
pub record SetSound (m : List ℕ) (at : ℕ) : Type 0 where
  pub good : SetGood m at
  pub quants : 0 ≡ quants_fault m (5 * quant_count m at) (at + 22)
