-- `tiles::ready_tile` meets its contract: `ready_made`, once its samples are made and its rectangles are kept.
use Prim.Native.Nat.{ℕ, ◌+◌, ◌*◌, ◌≤◌}
use mathlib.Core.Path.{ap, subst⁻¹, ◌∙◌}
use mathlib.Core.List.{List}
use native.Mathlib.Omega.{arith}
use lib.ListN.{length}
use Rattle.wire.specs.Le.{le16}
use Rattle.frame_layout.specs.Reader.{rect_count, tile_at}
use Rattle.frame_blocks.specs.Tiles.{TileWhole}
use Rattle.frame_draw.specs.laws.Asked.{asked_most}
use Rattle.frame_draw.specs.laws.Show.{rects_length, ready_made}
use Rattle.frame_draw.proofs.tiles.ready_tile.Goals as goal
use Rattle.frame_draw.proofs.tiles.ready_tile.Goals.{After-le16_at, After-tile_data-d}

-- the tile is all there, in the data as they were taken
whole :
    (c : After-tile_data-d) →
    TileWhole c.tile_data-d.result.now c.args.at
whole c =
    subst⁻¹ (λ (z : List ℕ). TileWhole z c.args.at) c.tile_data-d.ensures c.requires.3.good.whole

-- the region's rectangles are all there
held : (c : After-le16_at) → 8 * c.le16_at.result ≤ length c.rects-rects.result.now
unfolding rect_count
held c =
    omega (arith, rects_length c.args.m.now 14 c.requires.1, ap length c.rects-rects.ensures, c.le16_at.ensures.0)

pub overflow_add-at : goal.overflow_add-at
overflow_add-at c =
    omega (arith, whole (goal.at.overflow_add-at c).After-tile_data-d, c.well_formed)

pub le16_at-tx-requires : goal.le16_at-tx-requires
le16_at-tx-requires c = omega (arith, whole (goal.at.le16_at-tx-requires c).After-tile_data-d)

pub overflow_add-at-2 : goal.overflow_add-at-2
overflow_add-at-2 c =
    omega (arith, whole (goal.at.overflow_add-at-2 c).After-tile_data-d, c.well_formed)

pub le16_at-ty-requires : goal.le16_at-ty-requires
le16_at-ty-requires c = omega (arith, whole (goal.at.le16_at-ty-requires c).After-tile_data-d)

pub le16_at-requires : goal.le16_at-requires
le16_at-requires c =
    omega (arith, c.requires.1.there, c.requires.1.size)

pub asked_of-n-requires : goal.asked_of-n-requires
asked_of-n-requires c = (held (goal.at.asked_of-n-requires c).After-le16_at, c.le16_at-tx.ensures.1, c.le16_at-ty.ensures.1)

pub clip_rects-requires : goal.clip_rects-requires
unfolding rect_count
clip_rects-requires c =
    let m = asked_most _ _ _ _ _ _ _ c.asked_of-n.ensures in
    let long = c.tile_samples.auto.tmp in (
      omega (arith, held (goal.at.clip_rects-requires c).After-le16_at, m),
      omega (arith, m, c.le16_at.ensures.0, c.requires.1.count, c.requires.0.tmp_len, long),
      c.le16_at-tx.ensures.1,
    )

pub returns : goal.returns
unfolding tile_at rect_count
returns c =
    let a = c.args in
    let there = c.tile_data-d.ensures in
    ready_made a.p.mode a.m.now a.p.sp a.p.w a.p.h _ a.at _ _ _ _ _ _ _ _ _ c.requires.3 c.tile_samples.ensures c.rects-rects.ensures
    c.le16_at.ensures.0 (c.le16_at-tx.ensures.0 ∙ ap (λ (z : List ℕ). le16 z (a.at + 9)) there)
    (c.le16_at-ty.ensures.0 ∙ ap (λ (z : List ℕ). le16 z (a.at + 11)) there) c.le16_at-tx.ensures.1 c.le16_at-ty.ensures.1 c.asked_of-n.ensures
    c.clip_rects.ensures
