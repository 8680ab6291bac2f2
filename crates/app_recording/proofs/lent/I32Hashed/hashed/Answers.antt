-- The four bytes of the number's bits.
use Rattle.std.proofs.Common.{ap, ◌∙◌, to_z-of_z}
use Rattle.app_recording.specs.Hash.{hashed_signed, hashed_four, bits_of}
use Rattle.app_recording.proofs.lent.I32Hashed.hashed.Goals as goal

pub returns : goal.returns
unfolding hashed_signed
returns c = c.with_four.ensures ∙ ap (hashed_four _) (c.bits_of.ensures ∙ ap bits_of (to_z-of_z c.ranges.self))
