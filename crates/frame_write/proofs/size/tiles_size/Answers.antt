-- Refused at a tile, all is (`sizing_stops`); else the sum grows by the tile (`sizing_next`), up to the size of all (`sizing_ends`).
use Prim.Native.Nat.{ℕ}
use mathlib.Core.Path.{ap, ◌∙◌}
use native.Mathlib.Omega.{arith}
use Rattle.wire.specs.laws.Refusal.{handed_on}
use Rattle.frame_write.specs.Job.{tile_stop, sent_at, tile_sent, stop_sent}
use Rattle.frame_write.specs.laws.Encode.{tile_small, sizing_start, sizing_stops, sizing_next, sizing_ends}
use Rattle.frame_write.proofs.size.tiles_size.Goals as goal

pub loop-i-init : goal.loop-i-init
loop-i-init c = sizing_start _ _ _

pub returns-in_err-total : goal.returns-in_err-total
returns-in_err-total c =
    let a = c.args in
    let j = c.args.job in
    let l = c.loop-i in
    rw (handed_on _ _ c.from_residual.ensures.1)
    (sizing_stops (tile_sent j a.pixels.now a.picks.now) (stop_sent j a.pixels.now a.picks.now) a.n l.i l.total c.loop-i-test.true l.invariant _
    (c.in_err-total.ensures.number ∙ ap (λ (k : ℕ). tile_stop j a.pixels.now k) c.number_at-k.ensures))

pub overflow_add-total : goal.overflow_add-total
overflow_add-total c =
    let a = c.args in
    let j = c.args.job in
    let l = c.loop-i in
    let next =
    sizing_next (tile_sent j a.pixels.now a.picks.now) (stop_sent j a.pixels.now a.picks.now) a.n l.i l.total c.loop-i-test.true l.invariant _
    (rw c.number_at-k.ensures at c.in_ok-total.ensures) (tile_small a.pixels.now j.width j.height j.mode j.quants (sent_at a.picks.now l.i)) in
    omega (arith, next.1, c.requires.1.few)

pub loop-i-preserved : goal.loop-i-preserved
loop-i-preserved c =
    let a = c.args in
    let j = c.args.job in
    let l = c.loop-i in
    let next =
    sizing_next (tile_sent j a.pixels.now a.picks.now) (stop_sent j a.pixels.now a.picks.now) a.n l.i l.total c.loop-i-test.true l.invariant _
    (rw c.number_at-k.ensures at c.in_ok-total.ensures) (tile_small a.pixels.now j.width j.height j.mode j.quants (sent_at a.picks.now l.i)) in
    next.0

pub returns : goal.returns
returns c = sizing_ends _ _ _ c.loop-i.i c.loop-i.total c.loop-i-test.false c.loop-i.invariant
