-- Each turn keeps it, and at the end it is what is promised.
use mathlib.Core.Path.{refl, sym, ◌∙◌}
use native.Mathlib.Omega.{arith}
use native.Mathlib.Nat.{sub-zero}
use Rattle.wire.specs.laws.Refusal.{number_pos, number_on}
use Rattle.whole.specs.laws.Row.{passes, fails, eq_is, ne_is}
use Rattle.frame_layout.specs.Reader.{size_at}
use Rattle.frame_blocks.specs.laws.Tiles.{tile_sound, walk_stops, walk_goes_on, walk_ends}
use Rattle.frame.proofs.check.tiles_fault.Goals as goal

pub loop-i-init : goal.loop-i-init
loop-i-init c = (omega arith, refl, rw sub-zero)

pub tile_fault-requires : goal.tile_fault-requires
tile_fault-requires c =
    let p = c.requires in
    (p.0, c.loop-i.invariant.1 ∙ p.1, p.2, p.3, c.loop-i.invariant.0)

pub shape_of-work-in_err-tile_fault : goal.shape_of-work-in_err-tile_fault
shape_of-work-in_err-tile_fault c = c.tile_fault.auto.work ∙ c.loop-i.invariant.1

pub returns-in_err-tile_fault : goal.returns-in_err-tile_fault
returns-in_err-tile_fault c =
    let a = c.args in
    number_on _ _ c.from_residual.ensures.1
    ∙ walk_stops _ a.s.width a.s.height a.q a.d.now a.n c.loop-i.i _ _ c.loop-i-test.true (number_pos _) c.in_err-tile_fault.ensures
    ∙ sym c.loop-i.invariant.2

pub overflow_add-at : goal.overflow_add-at
overflow_add-at c =
    let a = c.args in
    let g = tile_sound _ a.s.width a.s.height a.q a.d.now c.loop-i.at c.loop-i.invariant.0 c.in_ok-tile_fault.ensures in
    omega (arith, g.good.whole, c.well_formed)

pub le32_at-at-requires : goal.le32_at-at-requires
unfolding size_at
le32_at-at-requires c =
    let a = c.args in
    let g = tile_sound _ a.s.width a.s.height a.q a.d.now c.loop-i.at c.loop-i.invariant.0 c.in_ok-tile_fault.ensures in
    omega (arith, g.good.whole, c.well_formed)

pub overflow_add-at-in-loop-i : goal.overflow_add-at-in-loop-i
unfolding size_at
overflow_add-at-in-loop-i c =
    let a = c.args in
    let g = tile_sound _ a.s.width a.s.height a.q a.d.now c.loop-i.at c.loop-i.invariant.0 c.in_ok-tile_fault.ensures in
    omega (arith, g.good.whole, c.le32_at-at.ensures, c.well_formed)

pub loop-i-preserved : goal.loop-i-preserved
unfolding size_at
loop-i-preserved c =
    let a = c.args in
    let g = tile_sound _ a.s.width a.s.height a.q a.d.now c.loop-i.at c.loop-i.invariant.0 c.in_ok-tile_fault.ensures in
    let w = walk_goes_on _ a.s.width a.s.height a.q a.d.now a.n c.loop-i.i _ c.loop-i-test.true (sym c.in_ok-tile_fault.ensures) in (
      omega (arith, g.good.whole, c.le32_at-at.ensures),
      c.tile_fault.auto.work ∙ c.loop-i.invariant.1,
      c.loop-i.invariant.2 ∙ (w ∙ rw c.le32_at-at.ensures.0),
    )

pub shape_of-work-then-at-d : goal.shape_of-work-then-at-d
shape_of-work-then-at-d c = c.loop-i.invariant.1

pub returns-then-at-d : goal.returns-then-at-d
returns-then-at-d c =
    let a = c.args in
    walk_ends _ a.s.width a.s.height a.q a.d.now a.n c.loop-i.i _ _ c.loop-i-test.false
    (fails _ _ _ _ (ne_is refl refl c.if-at-d.true) refl)
    ∙ sym c.loop-i.invariant.2

pub shape_of-work : goal.shape_of-work
shape_of-work c = c.loop-i.invariant.1

pub returns : goal.returns
returns c =
    let a = c.args in
    walk_ends _ a.s.width a.s.height a.q a.d.now a.n c.loop-i.i _ _ c.loop-i-test.false
    (passes _ _ _ _ (eq_is refl refl c.if-at-d.false) refl)
    ∙ sym c.loop-i.invariant.2
