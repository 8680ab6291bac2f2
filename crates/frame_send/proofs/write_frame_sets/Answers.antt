-- Refused with everything as it was, or sent with no list of tiles, which is all of them (`as_all`), and both work lists cleared (`all_refused`, `all_sent`).
use Prim.Native.Nat.{ℕ}
use mathlib.Core.Path.{ap, ◌∙◌}
use lib.IntN.{pos}
use lib.ListN.{length, replicate}
use Rattle.wire.specs.laws.Refusal.{handed_on}
use Rattle.frame_write.specs.laws.FrameWrite.{args_good, all_refused, all_sent}
use Rattle.frame_write.specs.laws.Picked.{all_there, as_all}
use Rattle.frame_send.proofs.write_frame_sets.Goals as goal

pub returns-in_err-arg_judge : goal.returns-in_err-arg_judge
returns-in_err-arg_judge c =
    let a = c.args in
    rw (handed_on _ _ c.from_residual.ensures.1)
    (all_refused a.width a.height a.mode a.q a.index a.pixels.now a.list.now a.scratch.now a.out.now _ c.in_err-arg_judge.ensures)

pub tiles_no-n-requires : goal.tiles_no-n-requires
tiles_no-n-requires c =
    let a = c.args in
    let g = args_good a.width a.height a.mode a.q a.pixels.now (length a.list.now) (length a.scratch.now) c.in_ok-arg_judge.ensures in
    (g.picture.wider, g.picture.higher)

pub send-r-requires : goal.send-r-requires
send-r-requires c =
    let a = c.args in
    let n = c.tiles_no-n in (
      args_good a.width a.height a.mode a.q a.pixels.now (length a.list.now) (length a.scratch.now) c.in_ok-arg_judge.ensures,
      all_there a.width a.height n.result n.ensures.0 n.ensures.1,
    )

pub returns : goal.returns
returns c =
    let a = c.args in
    let n = c.tiles_no-n in
    let r = c.send-r in
    let g = args_good a.width a.height a.mode a.q a.pixels.now (length a.list.now) (length a.scratch.now) c.in_ok-arg_judge.ensures in
    all_sent a.width a.height a.mode a.q a.index a.pixels.now a.list.now a.scratch.now a.out.now c.in_ok-arg_judge.ensures _ _ _ r.result
    (as_all a.pixels.now a.width a.height a.mode a.q a.index n.result a.out.now _ r.result n.ensures.0 r.ensures)
    (c.clear.ensures ∙ ap (λ (k : ℕ). replicate k (pos 0)) (r.auto.list ∙ g.first))
    (c.clear-2.ensures ∙ ap (λ (k : ℕ). replicate k (pos 0)) (r.auto.scratch ∙ g.second))
