-- Each turn keeps it, and at the end it is what is promised.
use mathlib.Core.Path.{refl, ◌∙◌}
use native.Mathlib.Omega.{arith}
use Rattle.frame_draw.specs.laws.Clip.{clips_none, clips_next, clips_all}
use Rattle.frame_draw.proofs.clip.clip_rects.Goals as goal

pub part_of-part-requires : goal.part_of-part-requires
part_of-part-requires c = omega arith

pub loop-k-init : goal.loop-k-init
loop-k-init c = (omega arith, refl, clips_none _ _ _ _)

pub overflow_mul-tx : goal.overflow_mul-tx
overflow_mul-tx c = omega arith

pub clip_of-requires : goal.clip_of-requires
clip_of-requires c = (omega arith, omega arith)

pub put_clip-requires : goal.put_clip-requires
put_clip-requires c = let l = c.loop-k.invariant.1 in (omega arith, c.clip_of.ensures.1)

pub loop-k-preserved : goal.loop-k-preserved
loop-k-preserved c =
    let of = c.clip_of.ensures in
    let k = c.put_clip.auto.clips in (
      omega arith,
      k ∙ c.loop-k.invariant.1,
      clips_next _ _ _ _ c.loop-k.k _ _ _ c.part_of-part.ensures of.0 (omega arith) c.put_clip.ensures c.loop-k.invariant.2,
    )

pub returns : goal.returns
returns c = clips_all _ _ _ _ _ _ c.loop-k.invariant.0 (omega arith) c.loop-k.invariant.2
