-- `clip::mask_of` meets its contract: so many ones, shifted.
use mathlib.Core.Path.{sym}
use Rattle.frame_draw.specs.laws.Bits.{mask_made, mask_none}
use Rattle.frame_draw.proofs.clip.mask_of.Goals as goal

pub returns-then-to-from : goal.returns-then-to-from
returns-then-to-from c = sym (mask_none _ _ c.requires c.if-to-from.true)

pub returns : goal.returns
returns c = sym (mask_made _ _ c.requires c.if-to-from.false)
