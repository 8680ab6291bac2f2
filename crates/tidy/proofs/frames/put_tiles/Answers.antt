-- Each turn keeps it, and at the end it is what is promised.
use mathlib.Core.Path.{refl, ◌∙◌}
use native.Mathlib.Omega.{arith}
use Rattle.frame_layout.specs.Reader.{size_at, tile_at}
use Rattle.tidy.specs.laws.Put.{so_far_start, tile_whole, so_far_grows, so_far_ends, cut_three}
use Rattle.tidy.proofs.frames.put_tiles.Goals as goal

pub loop-i-init : goal.loop-i-init
loop-i-init c = (refl, refl, so_far_start _ _ _ _ _ _ c.requires.2)

pub put_tile-p-requires : goal.put_tile-p-requires
put_tile-p-requires c =
    let f = c.loop-i.invariant.2 in
    let w = tile_whole _ _ _ _ _ _ _ _ _ _ _ f c.loop-i-test.true in
    (c.loop-i.invariant.0 ∙ c.requires.0, w, omega (arith, w.there, f.here, f.short, c.requires.3, c.loop-i.invariant.1))

pub overflow_add-cut : goal.overflow_add-cut
overflow_add-cut c =
    let a = c.args in
    let f = c.loop-i.invariant.2 in
    omega (arith, f.few, c.put_tile-p.ensures.counts, cut_three a.sender a.mode (tile_at a.d.now c.loop-i.at), c.loop-i-test.true, c.requires.1)

pub overflow_add-at : goal.overflow_add-at
overflow_add-at c =
    let w = tile_whole _ _ _ _ _ _ _ _ _ _ _ c.loop-i.invariant.2 c.loop-i-test.true in
    omega (arith, w, c.well_formed)

pub le32_at-at-requires : goal.le32_at-at-requires
le32_at-at-requires c =
    let w = tile_whole _ _ _ _ _ _ _ _ _ _ _ c.loop-i.invariant.2 c.loop-i-test.true in
    omega (arith, w, c.well_formed)

pub overflow_add-at-in-loop-i : goal.overflow_add-at-in-loop-i
unfolding size_at
overflow_add-at-in-loop-i c =
    let w = tile_whole _ _ _ _ _ _ _ _ _ _ _ c.loop-i.invariant.2 c.loop-i-test.true in
    omega (arith, w, c.le32_at-at.ensures, c.well_formed)

pub loop-i-preserved : goal.loop-i-preserved
unfolding size_at
loop-i-preserved c = (
  c.put_tile-p.auto.list ∙ c.loop-i.invariant.0,
  c.put_tile-p.auto.out ∙ c.loop-i.invariant.1,
  so_far_grows _ _ _ _ _ _ _ _ _ _ _ c.loop-i.invariant.2 c.loop-i-test.true _ c.put_tile-p.result c.le32_at-at.result (omega (arith, c.requires.3))
      c.le32_at-at.ensures.0 c.put_tile-p.ensures,
)

pub shape_of-list : goal.shape_of-list
shape_of-list c = c.loop-i.invariant.0

pub shape_of-out : goal.shape_of-out
shape_of-out c = c.loop-i.invariant.1

pub returns : goal.returns
returns c = so_far_ends _ _ _ _ _ _ _ _ _ _ _ c.loop-i.invariant.2 (omega (arith, c.loop-i-test.false))
