-- `send` meets its contract: where there is room for the largest frame none of its tiles is refused and it fits (`none_stopped`, `fits`, `sent_once`); else
-- it is the writer that measures first. Assumes nothing.
use Prim.Native.Nat.{◌≤◌}
use mathlib.Core.Path.{◌≡◌, sym, ◌∙◌}
use lib.ListN.{length}
use native.Mathlib.Omega.{arith}
use borrow.Author.Tests.{leb-true}
use borrow.Author.Rules.{rules}
use Rattle.bits.specs.laws.Bytes.{Bytes}
use Rattle.frame_send.specs.Room.{largest}
use Rattle.frame_send.specs.laws.Room.{none_stopped, fits, sent_once}
use Rattle.frame_send.proofs.send.Goals as goal
use Rattle.frame_send.proofs.send.Goals.{After-shared_slice_known-1, Start, Then-is_roomy}

-- the output has room for the largest frame
roomy : (t : Then-is_roomy) → largest t.args.n ≤ length t.args.out.now
roomy t = leb-true _ _ (sym t.is_roomy.ensures ∙ t.if-is_roomy.true)

-- pixels are bytes
pixels : (s : After-shared_slice_known-1) → Bytes s.args.pixels.now
pixels s = λ i. omega (arith, s.type_inv.pixels i)

ten : (s : Start) → (length s.args.job.quants.luma.v ≡ 10) × (length s.args.job.quants.chroma.v ≡ 10)
ten s = search rules

pub put_frame-requires : goal.put_frame-requires
put_frame-requires c =
    let a = c.args in
    let j = c.args.job in
    let none = none_stopped j a.pixels.now a.picks.now a.n a.list.now a.scratch.now
    (pixels (goal.at.put_frame-requires c).After-shared_slice_known-1) c.requires.0 c.requires.1 in
    let room = fits j a.pixels.now a.picks.now a.n a.list.now a.scratch.now (pixels (goal.at.put_frame-requires c).After-shared_slice_known-1)
    c.requires.0 c.requires.1 _ (roomy (goal.at.put_frame-requires c).Then-is_roomy) in
    (c.requires.0, c.requires.1, none, room)

pub returns-then-is_roomy : goal.returns-then-is_roomy
returns-then-is_roomy c =
    let a = c.args in
    sent_once a.job a.pixels.now a.picks.now a.n a.list.now a.scratch.now (pixels (goal.at.returns-then-is_roomy c).After-shared_slice_known-1)
    c.requires.0 c.requires.1
    a.out.now _ _ (ten (goal.at.returns-then-is_roomy c).Start).0 (ten (goal.at.returns-then-is_roomy c).Start).1
    (roomy (goal.at.returns-then-is_roomy c).Then-is_roomy) c.put_frame.ensures.0 c.put_frame.ensures.1
