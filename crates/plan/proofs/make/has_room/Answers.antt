-- `has_room` meets its contract: no more tiles differ than there are.
use mathlib.Core.Path.{ap, sym}
use native.Mathlib.Omega.{arith}
use lib.Dec.{leb}
use lib.ListN.{length}
use borrow.Author.Tests.{le-leb}
use Rattle.plan.specs.Plan.{changed}
use Rattle.plan.specs.laws.Changed.{changed_few}
use Rattle.plan.proofs.make.has_room.Goals as goal

pub returns-then-tiles_no-room : goal.returns-then-tiles_no-room
returns-then-tiles_no-room c =
    let s = c.args in
    let tiles-no = c.tiles_no in
    let few = changed_few s.old.now s.new.now s.w s.h in
    sym (le-leb (length (changed s.old.now s.new.now s.w s.h)) s.room (omega (arith, tiles-no.ensures.0, c.if-tiles_no-room.true, few)))

pub returns : goal.returns
returns c = ap (λ n. leb n c.args.room) c.count_changed.ensures
