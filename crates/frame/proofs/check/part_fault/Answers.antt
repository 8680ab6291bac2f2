-- `walk::part_fault` meets its contract: the tile's index names a set of the tileset, whose values are good, and the number is that of the code by that set.
-- Assumes nothing.
use Prim.Native.Nat.{◌+◌, ◌*◌, ◌≤◌, ◌<◌}
use mathlib.Core.Path.{◌≡◌, ◌∙◌, subst⁻¹}
use native.Mathlib.Omega.{arith}
use lib.ListN.{length}
use Rattle.bands.specs.Bands.{quant_of, QuantGood}
use Rattle.frame_layout.specs.Reader.{set_at, quant_count, tile_at}
use Rattle.frame_blocks.specs.Tiles.{index_of}
use Rattle.frame_blocks.specs.laws.Tiles.{index_below}
use Rattle.frame_blocks.specs.Judged.{in_set, judged}
use Rattle.frame_blocks.specs.laws.Judged.{set_fits, set_values, set_is}
use Rattle.frame.proofs.check.part_fault.Goals as goal
use Rattle.frame.proofs.check.part_fault.Goals.{After-quant_at-set, After-quant_index-j}

-- the index is below the number of sets, and its set lies in the message
below : (s : After-quant_index-j) → index_of (tile_at s.args.d.now s.args.at) s.args.k < quant_count s.args.m.now s.args.sp
below s = index_below _ s.args.d.now s.args.at s.args.k s.requires.2 s.requires.3

there : (c : After-quant_index-j) → c.args.sp + (22 + 5 * c.quant_index-j.result) + 5 ≤ length c.args.m.now
there c = omega (arith, set_fits c.args.m.now c.args.sp c.requires.1 _ (below c), c.quant_index-j.ensures)

-- the set that was read is the one of the index
set_read : (c : After-quant_at-set) →
    let t = tile_at c.args.d.now c.args.at in
    c.quant_at-set.result.v ≡ quant_of (set_at c.args.m.now c.args.sp (index_of t c.args.k))
set_read c = set_is c.args.m.now c.args.sp _ _ _ c.quant_at-set.ensures c.quant_index-j.ensures

pub overflow_mul-j : goal.overflow_mul-j
overflow_mul-j c = omega (arith, there (goal.at.overflow_mul-j c).After-quant_index-j, c.well_formed)

pub overflow_add-j : goal.overflow_add-j
overflow_add-j c = omega (arith, there (goal.at.overflow_add-j c).After-quant_index-j, c.well_formed)

pub overflow_add-sp : goal.overflow_add-sp
overflow_add-sp c = omega (arith, there (goal.at.overflow_add-sp c).After-quant_index-j, c.well_formed)

pub quant_at-set-requires : goal.quant_at-set-requires
quant_at-set-requires c = omega (arith, there (goal.at.quant_at-set-requires c).After-quant_index-j)

pub component_fault-requires : goal.component_fault-requires
component_fault-requires c = (
  c.requires.0,
  subst⁻¹ QuantGood (set_read (goal.at.component_fault-requires c).After-quant_at-set)
      (set_values c.args.m.now c.args.sp c.requires.1 _ (below (goal.at.component_fault-requires c).After-quant_index-j)),
)

pub returns : goal.returns
unfolding in_set judged
returns c = c.component_fault.ensures.number ∙ rw (set_read (goal.at.returns c).After-quant_at-set, c.code_part-code.ensures)
