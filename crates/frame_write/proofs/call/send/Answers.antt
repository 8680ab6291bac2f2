-- One law for each way out: a tile is refused (`send_stop`), there is no room (`send_room`), or the frame is written (`send_done`).
use Prim.Native.Nat.{ℕ}
use mathlib.Core.Path.{◌≡◌}
use lib.ListN.{length}
use native.Mathlib.Omega.{arith}
use borrow.Author.Rules.{rules}
use Rattle.wire.specs.laws.Refusal.{handed_on}
use Rattle.frame_write.specs.Job.{sent_at, tile_sent, stop_sent}
use Rattle.frame_write.specs.laws.Encode.{tile_small, sized_small}
use Rattle.frame_write.specs.laws.FrameWrite.{send_stop, send_room, send_done}
use Rattle.frame_write.proofs.call.send.Goals as goal
use Rattle.frame_write.proofs.call.send.Goals.{Start}

ten : (s : Start) → (length s.args.job.quants.luma.v ≡ 10) × (length s.args.job.quants.chroma.v ≡ 10)
ten s = search rules

pub returns-in_err-size : goal.returns-in_err-size
returns-in_err-size c =
    let a = c.args in
    let j = c.args.job in
    rw (handed_on _ _ c.from_residual.ensures.1)
    (send_stop j.index j.width j.height j.mode j.quants a.out.now a.n (tile_sent j a.pixels.now a.picks.now) (stop_sent j a.pixels.now a.picks.now) _
    c.in_err-size.ensures.number)

pub overflow_add-around-2 : goal.overflow_add-around-2
overflow_add-around-2 c =
    let a = c.args in
    let j = c.args.job in
    let s =
    sized_small (tile_sent j a.pixels.now a.picks.now) (stop_sent j a.pixels.now a.picks.now)
    (λ (i : ℕ). tile_small a.pixels.now j.width j.height j.mode j.quants (sent_at a.picks.now i)) a.n _ c.requires.1.few c.in_ok-size.ensures in
    omega (arith, s.1, c.chroma_index.ensures.1)

pub returns-then-out-around : goal.returns-then-out-around
returns-then-out-around c =
    let a = c.args in
    let j = c.args.job in
    let q = ten (goal.at.returns-then-out-around c).Start in
    send_room j.index j.width j.height j.mode j.quants a.out.now a.n (tile_sent j a.pixels.now a.picks.now) (stop_sent j a.pixels.now a.picks.now)
    q.0 q.1 _ c.in_ok-size.ensures (omega (arith, c.if-out-around.true, c.chroma_index.ensures.0))

pub returns : goal.returns
returns c =
    let a = c.args in
    let j = c.args.job in
    let q = ten (goal.at.returns c).Start in
    send_done j.index j.width j.height j.mode j.quants a.out.now a.n (tile_sent j a.pixels.now a.picks.now) (stop_sent j a.pixels.now a.picks.now)
    q.0 q.1 _ c.in_ok-size.ensures (omega (arith, c.if-out-around.false, c.chroma_index.ensures.0)) _ _ c.put_frame.ensures.0 c.put_frame.ensures.1
