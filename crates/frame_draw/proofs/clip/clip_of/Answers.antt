-- `clip::clip_of` meets its contract: the four numbers are read, and `clip_in` does the rest.
use mathlib.Core.Path.{subst⁻¹}
use native.Mathlib.Omega.{arith}
use Rattle.frame_draw.specs.Clips.{clip_of, SmallClip}
use Rattle.frame_draw.specs.laws.Clip.{clip_small}
use Rattle.frame_draw.proofs.clip.clip_of.Goals as goal

pub returns : goal.returns
unfolding clip_of
returns c =
    (cc, subst⁻¹ SmallClip c.clip_in.ensures (clip_small _ _ _ _ _ _ (omega arith) (omega arith) c.requires.1))
