-- `caps::write::put_ack_cap` meets its contract: two patches, from the start.
-- Assumes nothing.
use mathlib.Core.Path.{refl, ◌∙◌}
use native.Mathlib.Omega.{arith}
use Rattle.wire.specs.Le.{bytes16, bytes32}
use Rattle.wire.specs.laws.Le.{patch_next, patch_front}
use Rattle.caps.specs.AckCap.{ack_cap_of}
use Rattle.caps.proofs.write.put_ack_cap.Goals as goal

pub returns : goal.returns
unfolding bytes16 bytes32 ack_cap_of
returns c =
    patch_next _ _ _ _ _ _ _ c.put_two16.ensures c.put32_at.ensures refl (omega arith) ∙ patch_front _ _
