-- Each turn keeps it, and at the end it is what is promised.
use mathlib.Core.Path.{refl, sym, ◌∙◌}
use native.Mathlib.Omega.{arith}
use native.Mathlib.Nat.{sub-zero}
use Rattle.wire.specs.laws.Refusal.{number_pos, number_on}
use Rattle.whole.specs.laws.Row.{passes, fails, eq_is, ne_is}
use Rattle.frame_layout.specs.Reader.{size_at}
use Rattle.frame_blocks.specs.laws.Tiles.{tile_good, walk_stops, walk_goes_on, walk_ends}
use Rattle.tidy.specs.laws.Layout.{any_code, front_alone}
use Rattle.tidy.proofs.frames.tiles_layout.Goals as goal

pub loop-i-init : goal.loop-i-init
loop-i-init c = (omega arith, rw sub-zero)

pub tile_front-requires : goal.tile_front-requires
tile_front-requires c =
    (c.requires, c.loop-i.invariant.0)

pub returns-in_err-tile_front : goal.returns-in_err-tile_front
returns-in_err-tile_front c =
    let a = c.args in
    number_on _ _ c.from_residual.ensures.1
    ∙ walk_stops any_code a.s.width a.s.height a.q a.d.now a.n c.loop-i.i _ _ c.loop-i-test.true (number_pos _)
    (c.in_err-tile_front.ensures ∙ front_alone _ _ _ _ _)
    ∙ sym c.loop-i.invariant.1

pub overflow_add-at : goal.overflow_add-at
overflow_add-at c =
    let a = c.args in
    let g = tile_good a.s.width a.s.height a.q a.d.now c.loop-i.at c.loop-i.invariant.0
    c.in_ok-tile_front.ensures in
    omega (arith, g.whole, c.well_formed)

pub le32_at-at-requires : goal.le32_at-at-requires
unfolding size_at
le32_at-at-requires c =
    let a = c.args in
    let g = tile_good a.s.width a.s.height a.q a.d.now c.loop-i.at c.loop-i.invariant.0
    c.in_ok-tile_front.ensures in
    omega (arith, g.whole, c.well_formed)

pub overflow_add-at-in-loop-i : goal.overflow_add-at-in-loop-i
unfolding size_at
overflow_add-at-in-loop-i c =
    let a = c.args in
    let g = tile_good a.s.width a.s.height a.q a.d.now c.loop-i.at c.loop-i.invariant.0
    c.in_ok-tile_front.ensures in
    omega (arith, g.whole, c.le32_at-at.ensures, c.well_formed)

pub loop-i-preserved : goal.loop-i-preserved
unfolding size_at
loop-i-preserved c =
    let a = c.args in
    let g = tile_good a.s.width a.s.height a.q a.d.now c.loop-i.at c.loop-i.invariant.0 c.in_ok-tile_front.ensures in
    let w = walk_goes_on any_code a.s.width a.s.height a.q a.d.now a.n c.loop-i.i _ c.loop-i-test.true
    (sym (front_alone _ _ _ _ _) ∙ sym c.in_ok-tile_front.ensures) in
    (omega (arith, g.whole, c.le32_at-at.ensures), c.loop-i.invariant.1 ∙ (w ∙ rw c.le32_at-at.ensures.0))

pub returns-then-at-d : goal.returns-then-at-d
returns-then-at-d c =
    let a = c.args in
    walk_ends any_code a.s.width a.s.height a.q a.d.now a.n c.loop-i.i _ _ c.loop-i-test.false
    (fails _ _ _ _ (ne_is refl refl c.if-at-d.true) refl)
    ∙ sym c.loop-i.invariant.1

pub returns : goal.returns
returns c =
    let a = c.args in
    walk_ends any_code a.s.width a.s.height a.q a.d.now a.n c.loop-i.i _ _ c.loop-i-test.false
    (passes _ _ _ _ (eq_is refl refl c.if-at-d.false) refl)
    ∙ sym c.loop-i.invariant.1
