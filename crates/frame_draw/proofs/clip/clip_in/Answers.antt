-- `clip::clip_in` meets its contract: the mask of the columns, and the two ends of the rows.
use Rattle.frame_draw.specs.Clips.{clip_in}
use native.Mathlib.Omega.{arith}
use Rattle.frame_draw.proofs.clip.clip_in.Goals as goal

pub mask_of-mask-requires : goal.mask_of-mask-requires
mask_of-mask-requires c = omega arith

pub returns : goal.returns
unfolding clip_in
returns c = cc
