-- One store is a patch of one byte (`set_patch`).
use Rattle.wire.specs.laws.Le.{set_patch}
use Rattle.wire.proofs.put8_at.Goals as goal

pub returns : goal.returns
returns c = set_patch _ _ _ c.requires
