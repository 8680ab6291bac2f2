-- The next tile is not refused (`stops_none`) and still fits (`front_fits`); it stands behind those before it (`front_grows`), up to the last (`front_ends`).
use native.Mathlib.Omega.{arith}
use Prim.Native.Nat.{ℕ, ◌+◌}
use mathlib.Core.Path.{◌∙◌, ap}
use Rattle.wire.specs.Le.{patch}
use Rattle.frame_layout.specs.Bytes.{tile_len, tile_of}
use Rattle.frame_pieces.specs.laws.Parts.{front_start, front_fits, front_grows, front_ends}
use Rattle.frame_write.specs.Job.{tile_in, tile_sent, stop_sent}
use Rattle.frame_write.specs.laws.FrameWrite.{still_good}
use Rattle.frame_write.specs.laws.Stops.{stops_none}
use Rattle.frame_write.proofs.put.put_tiles.Goals as goal

pub loop-i-init : goal.loop-i-init
loop-i-init c = front_start _ _ _ _

pub put_tile-at-requires : goal.put_tile-at-requires
put_tile-at-requires c =
    let t = c.loop-i-test.true in
    let l = c.loop-i in
    let a = c.args in
    let j = c.args.job in
    rw c.number_at-k.ensures (
      still_good c.requires.0 l.auto.list l.auto.scratch,
      c.requires.1.there l.i t,
      stops_none (stop_sent j a.pixels.now a.picks.now) a.n 0 c.requires.2 l.i (omega arith) (omega arith),
      front_fits (tile_sent j a.pixels.now a.picks.now) a.n l.i a.from _ _ _ t l.invariant (omega (arith, c.requires.3, l.auto.out)),
    )

pub loop-i-preserved : goal.loop-i-preserved
loop-i-preserved c =
    let k = c.number_at-k in
    let l = c.loop-i in
    let a = c.args in
    let j = c.args.job in
    front_grows (tile_sent j a.pixels.now a.picks.now) a.n l.i a.from l.at _ a.out.now _ _ c.loop-i-test.true (omega (arith, c.requires.3)) l.invariant
    (c.put_tile-at.ensures.0 ∙ ap (λ (n : ℕ). patch l.out l.at (tile_of (tile_in j a.pixels.now n))) k.ensures)
    (c.put_tile-at.ensures.1 ∙ ap (λ (n : ℕ). l.at + tile_len (tile_in j a.pixels.now n)) k.ensures)

pub returns : goal.returns
returns c = front_ends _ _ c.loop-i.i _ _ _ _ c.loop-i-test.false c.loop-i.invariant
