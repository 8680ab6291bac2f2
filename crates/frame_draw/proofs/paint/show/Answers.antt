-- Each turn keeps it, and at the end it is what is promised.
use Prim.Native.Nat.{ℕ, ◌+◌, ◌≤◌}
use mathlib.Core.Path.{◌≡◌, ap, sym, ◌∙◌}
use mathlib.Core.List.{List}
use native.Mathlib.Omega.{arith}
use lib.ListN.{length}
use Rattle.std.proofs.lemmas.List.{length-map}
use Rattle.wire.specs.Le.{le32}
use Rattle.frame_layout.specs.Reader.{size_at, tile_count, data_of}
use Rattle.frame_draw.specs.laws.Show.{lists_kept, ready_clips}
use Rattle.frame_draw.specs.laws.Paint.{show_none, show_here, show_reach, show_room, show_next, show_all}
use Rattle.frame_draw.proofs.paint.show.Goals as goal
use Rattle.frame_draw.proofs.paint.show.Goals.{After-le32_at-at, In-loop-i}

-- how far the bytes of the tile reach
reach :
    (g : _) (c : In-loop-i g) →
    let m = c.args.m.now in
    let d = data_of m c.args.p.sp in
    let at = c.loop-i.at in
    (at + 6 ≤ length m) × (at + 6 ≤ length d) × (at + size_at d at ≤ length m)
reach g c = show_reach _ _ _ _ _ _ _ _ _ _ _ _ _ _ _ c.loop-i.invariant c.loop-i-test.true

-- what the tile says of its size
size_is :
    (g : _) (c : After-le32_at-at g) →
    let a = c.args in
    c.le32_at-at.result ≡ size_at (data_of a.m.now a.p.sp) c.loop-i.at
unfolding size_at
size_is g c =
    c.le32_at-at.ensures.0 ∙ ap (λ (z : List ℕ). le32 z (c.loop-i.at + 2)) c.tile_data-d.ensures

pub loop-i-init : goal.loop-i-init
unfolding tile_count
loop-i-init g c =
    show_none _ _ _ _ _ _ _ _ _ _ _ _ c.requires.0 c.le16_at-n.ensures.0 c.requires.3

pub ready_tile-s-requires : goal.ready_tile-s-requires
ready_tile-s-requires g c =
    let l = c.loop-i in
    (l.invariant.lists, c.requires.1, c.requires.2, (show_here _ _ _ _ _ _ _ _ _ _ _ _ _ _ _ l.invariant c.loop-i-test.true).0)

pub paint_tile-requires : goal.paint_tile-requires
paint_tile-requires g c =
    let r = c.ready_tile-s.ensures in
    let l = c.loop-i in
    let n = g.W.GlassWord.number in (
      omega (
        arith,
        length-map l.picture n,
        show_room _ _ _ _ _ _ _ _ _ _ _ _ _ _ _ l.invariant _ _ _ _ _ _ r (omega (arith, c.requires.4, length-map c.args.picture.now n)),
      ),
      ready_clips _ _ _ _ _ _ _ _ _ _ _ _ r c.rects-rects.ensures,
      r.x_small,
      r.y_small,
      r.y_plane,
      r.cb_plane,
      r.cr_plane,
    )

pub overflow_add-at : goal.overflow_add-at
overflow_add-at g c =
    omega (arith, (reach g (goal.at.overflow_add-at g c).In-loop-i).0, c.well_formed)

pub le32_at-at-requires : goal.le32_at-at-requires
le32_at-at-requires g c =
    omega (arith, (reach g (goal.at.le32_at-at-requires g c).In-loop-i).1, ap length c.tile_data-d.ensures)

pub overflow_add-at-in-loop-i : goal.overflow_add-at-in-loop-i
overflow_add-at-in-loop-i g c =
    omega (
      arith,
      (reach g (goal.at.overflow_add-at-in-loop-i g c).In-loop-i).2,
      size_is g (goal.at.overflow_add-at-in-loop-i g c).After-le32_at-at,
      c.well_formed,
    )

pub loop-i-preserved : goal.loop-i-preserved
loop-i-preserved g c =
    let l = c.loop-i in
    let k = c.ready_tile-s.auto in
    let lists = lists_kept _ _ _ _ _ _ _ _ l.invariant.lists k.ys k.cbs k.crs k.tmp in
    show_next _ _ _ _ _ _ _ _ _ _ _ _ _ _ _ l.invariant _ _ _ _ _ _ _ _ c.loop-i-test.true lists (size_is g (goal.at.loop-i-preserved g c).After-le32_at-at)
    c.ready_tile-s.ensures c.rects-rects.ensures
    (length-map _ _ ∙ (c.paint_tile.auto.picture ∙ sym (length-map _ _))) c.paint_tile.ensures

pub returns : goal.returns
unfolding tile_count
returns g c =
    show_all _ _ _ _ _ _ _ _ _ _ _ _ _ _ _ c.loop-i.invariant (omega arith) c.le16_at-n.ensures.0
