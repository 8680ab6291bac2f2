-- Each turn keeps it, and at the end it is what is promised.
use Rattle.std.specs.Prelude.{refl}
use Rattle.std.proofs.Common.{◌∙◌, sym, ap, arith, length-set}
use Rattle.std.proofs.Math.Nat.{sub-zero}
use Rattle.whole.specs.Row.{◌⇒◌∣◌}
use Rattle.frame_draw.specs.Draw.{row_place, stores}
use Rattle.frame_draw.specs.laws.Draw.{store_step, store_none}
use Rattle.frame_draw.specs.laws.Paint.{number_put}
use Rattle.frame_draw.proofs.paint.put_part.Goals as goal

pub loop-x-init : goal.loop-x-init
loop-x-init g c = (omega arith, refl, rw sub-zero)

pub loop-x-preserved : goal.loop-x-preserved
unfolding row_place ◌⇒◌∣◌
loop-x-preserved g c =
    let l = c.loop-x in
    let put = number_put g.W.GlassWord.number l.picture c.args.row.now _ l.x _ (omega arith) c.index-row-x.is in
    (omega arith, simp length-set (omega arith), l.invariant.2 ∙ (store_step _ _ _ _ l.x _ c.loop-x-test.true ∙ ap (stores _ _ _ _ _) (sym put)))

pub returns : goal.returns
returns g c =
    let l = c.loop-x in
    rw (← c.part_of-part.ensures) (sym (l.invariant.2 ∙ store_none _ _ _ _ l.x _ (omega arith)))
