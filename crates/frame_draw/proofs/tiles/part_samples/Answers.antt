-- `tiles::part_samples` meets its contract: the component's quantiser set and code are read, and `samples` does the rest.
use Prim.Native.Nat.{ℕ, ◌<◌}
use mathlib.Core.Path.{◌∙◌, ap, subst⁻¹}
use mathlib.Core.List.{List}
use native.Mathlib.Omega.{arith}
use Rattle.bands.specs.Bands.{QuantGood}
use Rattle.frame_layout.specs.Reader.{quant_count, set_at, tile_at}
use Rattle.frame_blocks.specs.Tiles.{index_of, TileSound}
use Rattle.frame_blocks.specs.laws.Tiles.{index_below, sound_part}
use Rattle.frame_blocks.specs.Judged.{in_set, judged}
use Rattle.frame_blocks.specs.laws.Judged.{set_fits, set_values, set_is}
use Rattle.frame_draw.specs.Show.{plane_of}
use Rattle.frame_draw.proofs.tiles.part_samples.Goals as goal
use Rattle.frame_draw.proofs.tiles.part_samples.Goals.{After-quant_index-j, After-tile_data-d}

-- the tile is sound, over the data as they were taken
sound :
    (c : After-tile_data-d) →
    let a = c.args in
    TileSound (in_set a.p.mode a.m.now a.p.sp) (quant_count a.m.now a.p.sp) c.tile_data-d.result.now a.at
sound c =
    let a = c.args in
    subst⁻¹ (λ (z : List ℕ). TileSound (in_set a.p.mode a.m.now a.p.sp) (quant_count a.m.now a.p.sp) z a.at) c.tile_data-d.ensures
    c.requires.3

-- its quantiser set is there
below :
    (c : After-quant_index-j) →
    let a = c.args in
    index_of (tile_at c.tile_data-d.result.now a.at) a.k < quant_count a.m.now a.p.sp
below c =
    let a = c.args in
    let s : TileSound (in_set a.p.mode a.m.now a.p.sp) (quant_count a.m.now a.p.sp) c.tile_data-d.result.now a.at =
    subst⁻¹ (λ (z : List ℕ). TileSound (in_set a.p.mode a.m.now a.p.sp) (quant_count a.m.now a.p.sp) z a.at) c.tile_data-d.ensures c.requires.3 in
    index_below _ c.tile_data-d.result.now a.at a.k s.good c.requires.4

pub quant_index-j-requires : goal.quant_index-j-requires
quant_index-j-requires c = ((sound (goal.at.quant_index-j-requires c).After-tile_data-d).good.whole, c.requires.4)

pub overflow_mul-j : goal.overflow_mul-j
overflow_mul-j c =
    omega (
      arith,
      set_fits c.args.m.now c.args.p.sp c.requires.2 _ (below (goal.at.overflow_mul-j c).After-quant_index-j),
      c.quant_index-j.ensures,
      c.well_formed,
    )

pub overflow_add-j : goal.overflow_add-j
overflow_add-j c =
    omega (
      arith,
      set_fits c.args.m.now c.args.p.sp c.requires.2 _ (below (goal.at.overflow_add-j c).After-quant_index-j),
      c.quant_index-j.ensures,
      c.well_formed,
    )

pub overflow_add-sp : goal.overflow_add-sp
overflow_add-sp c =
    omega (
      arith,
      set_fits c.args.m.now c.args.p.sp c.requires.2 _ (below (goal.at.overflow_add-sp c).After-quant_index-j),
      c.quant_index-j.ensures,
      c.well_formed,
    )

pub quant_at-set-requires : goal.quant_at-set-requires
quant_at-set-requires c =
    omega (
      arith,
      set_fits c.args.m.now c.args.p.sp c.requires.2 _ (below (goal.at.quant_at-set-requires c).After-quant_index-j),
      c.quant_index-j.ensures,
      c.well_formed,
    )

pub code_part-code-requires : goal.code_part-code-requires
code_part-code-requires c = ((sound (goal.at.code_part-code-requires c).After-tile_data-d).good.whole, c.requires.4)

pub samples-requires : goal.samples-requires
unfolding in_set judged
samples-requires c =
    let set = set_is c.args.m.now c.args.p.sp _ _ _ c.quant_at-set.ensures c.quant_index-j.ensures in
    let part = sound_part (in_set c.args.p.mode c.args.m.now c.args.p.sp) _ c.tile_data-d.result.now c.args.at c.args.k
    (sound (goal.at.samples-requires c).After-tile_data-d) c.requires.4 in (
      c.requires.0,
      c.requires.1,
      subst⁻¹ QuantGood set (set_values c.args.m.now c.args.p.sp c.requires.2 _ (below (goal.at.samples-requires c).After-quant_index-j)),
      rw (set, c.code_part-code.ensures) part,
    )

pub returns : goal.returns
unfolding plane_of
returns c =
    let set = set_is c.args.m.now c.args.p.sp _ _ _ c.quant_at-set.ensures c.quant_index-j.ensures in
    let d =
    ap (λ (z : List ℕ). plane_of c.args.p.mode (set_at c.args.m.now c.args.p.sp) (tile_at z c.args.at) c.args.k)
    c.tile_data-d.ensures in
    c.samples.ensures ∙ (rw (set, c.code_part-code.ensures) d)
