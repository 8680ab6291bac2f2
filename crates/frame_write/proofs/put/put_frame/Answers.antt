-- `put_frame` meets its contract: front, tiles, end and the tileset's lengths make the frame (`frame_put`). Assumes nothing.
use mathlib.Core.Path.{◌≡◌}
use native.Mathlib.Omega.{arith}
use lib.ListN.{length}
use Rattle.quants.specs.Quants.{sets_of}
use Rattle.frame_pieces.specs.laws.Parts.{frame_put, count_is, tens_of}
use Rattle.frame_write.specs.Job.{tile_sent}
use borrow.Author.Rules.{rules}
use Rattle.frame_write.proofs.put.put_frame.Goals as goal
use Rattle.frame_write.proofs.put.put_frame.Goals.{Start}

ten : (s : Start) → (length s.args.job.quants.luma.v ≡ 10) × (length s.args.job.quants.chroma.v ≡ 10)
ten s = search rules

pub returns : goal.returns
returns c =
    let i = c.chroma_index in
    let a = c.args in
    let j = c.args.job in
    let l = ten (goal.at.returns c).Start in
    let n = count_is j.quants l.0 l.1 in
    frame_put j.index j.width j.height j.mode (sets_of j.quants) a.n (tens_of j.quants l.0 l.1) a.out.now
    _ _ _ _ _ (tile_sent j a.pixels.now a.picks.now) (omega (arith, n, i.ensures.0)) c.put_front.ensures c.put_tiles-e.ensures.0
    c.put_tiles-e.ensures.1 c.close_frame.ensures
