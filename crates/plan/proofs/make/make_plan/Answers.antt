-- `make_plan` meets its contract: its three ways out, by what was judged on the way.
use Rattle.std.proofs.Common.{sym, ◌∙◌, leb-true}
use Rattle.wire.specs.laws.Refusal.{handed_on}
use Rattle.plan.specs.laws.Changed.{pictures_are}
use Rattle.plan.specs.laws.Made.{pictures_refused, room_refused, plan_done}
use Rattle.plan.proofs.make.make_plan.Goals as goal

pub returns-in_err-pictures_judge : goal.returns-in_err-pictures_judge
returns-in_err-pictures_judge c =
    let s = c.args in
    rw (handed_on _ _ c.from_residual.ensures.1)
    (pictures_refused s.width s.height s.old.now s.new.now s.out.now _ c.in_err-pictures_judge.ensures)

pub has_room-requires : goal.has_room-requires
has_room-requires c = let s = c.args in pictures_are s.width s.height s.old.now s.new.now c.in_ok-pictures_judge.ensures

pub returns-then-not-has_room : goal.returns-then-not-has_room
returns-then-not-has_room c =
    let s = c.args in
    room_refused s.width s.height s.old.now s.new.now s.out.now (sym c.in_ok-pictures_judge.ensures) (sym c.has_room.ensures ∙ c.if-not-has_room.true)

pub list_changed-requires : goal.list_changed-requires
list_changed-requires c =
    let s = c.args in
    (pictures_are s.width s.height s.old.now s.new.now c.in_ok-pictures_judge.ensures, leb-true _ _ (sym c.has_room.ensures ∙ c.if-not-has_room.false))

pub returns : goal.returns
returns c =
    let s = c.args in
    let listed = c.list_changed.ensures in
    plan_done s.width s.height s.old.now s.new.now s.out.now _ _ (sym c.in_ok-pictures_judge.ensures)
    (sym c.has_room.ensures ∙ c.if-not-has_room.false) listed.0 listed.1
