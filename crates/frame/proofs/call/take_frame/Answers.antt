-- `call::take_frame` meets its contract: judged, then drawn, by the laws of specs/laws/Frame, which name no word size. They speak of the words' numbers, of
-- which there are as many as words.
use mathlib.Core.Path.{refl, sym, ◌∙◌}
use Rattle.wire.specs.laws.Refusal.{handed_on}
use Rattle.std.specs.Prelude.{map}
use Rattle.std.proofs.lemmas.List.{length-map}
use Rattle.frame_draw.specs.laws.Show.{lists_kept}
use Rattle.frame.specs.laws.Frame.{frame_refused, frame-call, frame_message, frame_done, pass_good, pass_room, pass_shown, pass_count}
use Rattle.frame.proofs.call.take_frame.Goals as goal

pub returns-in_err-judge_frame : goal.returns-in_err-judge_frame
returns-in_err-judge_frame g c =
    let j = rw (sym (length-map c.args.picture.now g.W.GlassWord.number), c.GLASS.ensures) at c.in_err-judge_frame.ensures in
    rw (handed_on _ _ c.from_residual.ensures.1) (frame_refused _ _ _ _ _ _ _ _ _ _ _ _ _ j _ refl)

pub pass_of-p-requires : goal.pass_of-p-requires
pass_of-p-requires g c =
    let pic = map g.W.GlassWord.number c.args.picture.now in
    let j = rw (sym (length-map c.args.picture.now g.W.GlassWord.number), c.GLASS.ensures) at c.in_ok-judge_frame.ensures in
    frame_message _ _ _ pic _ _ _ _ _ _ _ _ _ j refl

pub show-requires : goal.show-requires
show-requires g c =
    let a = c.args in
    let k = c.judge_frame.auto in
    let pic = map g.W.GlassWord.number a.picture.now in
    let len = length-map a.picture.now g.W.GlassWord.number in
    let j = rw (sym len, c.GLASS.ensures) at c.in_ok-judge_frame.ensures in
    let call = frame-call _ a.s _ pic _ _ _ _ _ _ _ _ _ j refl in
    let good = pass_good a.s _ _ c.pass_of-p.ensures (frame_message _ a.s _ pic _ _ _ _ _ _ _ _ _ j refl) in (
      lists_kept _ _ _ _ _ _ _ _ call.lists k.ys k.cbs k.crs k.tmp,
      good.region,
      good.set,
      good.tiles,
      pass_room a.s _ _ _ c.pass_of-p.ensures (rw len at call.room),
    )

pub clear_all-requires : goal.clear_all-requires
clear_all-requires g c =
    let a = c.args in
    let k = c.judge_frame.auto in
    let j = rw (sym (length-map a.picture.now g.W.GlassWord.number), c.GLASS.ensures) at c.in_ok-judge_frame.ensures in
    let call = frame-call _ a.s _ (map g.W.GlassWord.number a.picture.now) _ _ _ _ _ _ _ _ _ j refl in
    lists_kept _ _ _ _ _ _ _ _ call.lists (c.show.auto.ys ∙ k.ys) (c.show.auto.cbs ∙ k.cbs) (c.show.auto.crs ∙ k.crs) (c.show.auto.tmp ∙ k.tmp)

pub tile_count-requires : goal.tile_count-requires
tile_count-requires g c =
    let a = c.args in
    let pic = map g.W.GlassWord.number a.picture.now in
    let j = rw (sym (length-map a.picture.now g.W.GlassWord.number), c.GLASS.ensures) at c.in_ok-judge_frame.ensures in
    (pass_good a.s _ _ c.pass_of-p.ensures (frame_message _ a.s _ pic _ _ _ _ _ _ _ _ _ j refl)).set

pub returns : goal.returns
returns g c =
    let a = c.args in
    let j = rw (sym (length-map a.picture.now g.W.GlassWord.number), c.GLASS.ensures) at c.in_ok-judge_frame.ensures in
    frame_done _ a.s _ (map g.W.GlassWord.number a.picture.now) _ _ _ _ _ _ _ _ _ j refl _ _ _ _ _ _
    (pass_shown _ a.s _ _ _ _ c.pass_of-p.ensures c.show.ensures) c.clear_all.ensures
    (pass_count a.s _ _ _ c.pass_of-p.ensures c.tile_count.ensures)
