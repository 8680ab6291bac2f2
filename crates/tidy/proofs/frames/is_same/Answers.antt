-- Two lists are the same list exactly if they are the same byte for byte (`same_by`).
use mathlib.Core.Path.{◌∙◌}
use Rattle.tidy.specs.laws.Same.{same_by}
use Rattle.tidy.proofs.frames.is_same.Goals as goal

pub returns : goal.returns
returns c = c.eq.ensures ∙ same_by _ _
