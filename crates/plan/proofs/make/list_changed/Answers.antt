-- Each turn keeps it, and at the end it is what is promised.
use Prim.Native.Nat.{◌<◌}
use mathlib.Core.Path.{sym, ◌∙◌}
use native.Mathlib.Omega.{arith}
use lib.ListN.{length}
use Rattle.plan.specs.Plan.{changed_tile}
use Rattle.plan.specs.laws.Changed.{listing_none, listing_yes, listing_no, listing_room, listing_done}
use Rattle.plan.proofs.make.list_changed.Goals as goal
use Rattle.plan.proofs.make.list_changed.Goals.{Then-is_changed, else-is_changed, then-is_changed}

-- where the tile differs there is room for its number
room_here : (c : Then-is_changed) → let l = c.loop-k in l.i < length l.out
room_here c =
    let l = c.loop-k in
    let s = c.args in
    let pre = c.requires in
    let tiles-no = c.tiles_no-n in
    let room = listing_room s.old.now s.new.now s.w s.h _ tiles-no.ensures.0 s.out.now l.out l.i l.k l.invariant.1 in
    room c.loop-k-test.true pre.1 (sym c.is_changed.ensures ∙ c.if-is_changed.true)

pub loop-k-init : goal.loop-k-init
loop-k-init c = (omega arith, listing_none _ _)

pub overflow_cast-out : goal.overflow_cast-out
overflow_cast-out c = omega (arith, c.tiles_no-n.ensures.1)

pub offset_bounds-out-i : goal.offset_bounds-out-i
offset_bounds-out-i c = omega (arith, room_here (goal.at.offset_bounds-out-i c).Then-is_changed)

pub bounds-out-i : goal.bounds-out-i
bounds-out-i c = room_here (goal.at.bounds-out-i c).Then-is_changed

pub overflow_add-i : goal.overflow_add-i
overflow_add-i c = omega (arith, room_here (goal.at.overflow_add-i c).Then-is_changed)

pub loop-k-preserved : goal.loop-k-preserved
loop-k-preserved c =
    let l = c.loop-k in
    let s = c.args in
    let is-changed = c.is_changed in
    let tiles-no = c.tiles_no-n in
    let loop-test = c.loop-k-test in
    let pre = c.requires in
    let p = changed_tile s.old.now s.new.now s.w s.h in
    let d = sym is-changed.ensures in
    let m = listing_room s.old.now s.new.now s.w s.h _ tiles-no.ensures.0 s.out.now l.out l.i l.k l.invariant.1 in
    let room = m loop-test.true pre.1 in (
      omega arith,
      elim c.if-is_changed.branch [
        | then-is_changed v ↦ rw (v.out-is, v.i-is)
            (listing_yes p _ l.out l.i l.k l.invariant.1 (d ∙ v.if-is_changed.true) (room (d ∙ v.if-is_changed.true)))
        | else-is_changed v ↦ rw
            (v.out-is, v.i-is) (listing_no p _ l.out l.i l.k l.invariant.1 (d ∙ v.if-is_changed.false))
      ],
    )

pub returns : goal.returns
returns c =
    let l = c.loop-k in
    let s = c.args in
    let tiles-no = c.tiles_no-n in
    listing_done s.old.now s.new.now s.w s.h _ tiles-no.ensures.0 s.out.now l.out l.i l.k l.invariant.1 l.invariant.0
    (omega arith)
