-- By the sign (`bits_are`).
use Rattle.std.proofs.Common.{◌∙◌, ap, of_z, w32, to_z-of_z}
use Rattle.app_recording.specs.laws.Hash.{bits_are}
use Rattle.app_recording.proofs.lent.bits_of.Goals as goal

pub returns : goal.returns
returns c = c.from.ensures ∙ (c.cast_unsigned.ensures ∙ (ap (of_z w32) (to_z-of_z c.ranges.x) ∙ bits_are c.args.x c.ranges.x))
