-- `caps::write::put_ack` meets its contract: two patches, from the start.
-- Assumes nothing.
use mathlib.Core.Path.{refl, ◌∙◌}
use native.Mathlib.Omega.{arith}
use Rattle.wire.specs.Le.{bytes16, bytes32}
use Rattle.wire.specs.laws.Le.{patch_next, patch_front}
use Rattle.caps.specs.Ack.{ack_of}
use Rattle.caps.proofs.write.put_ack.Goals as goal

pub returns : goal.returns
unfolding bytes16 bytes32 ack_of
returns c =
    patch_next _ _ _ _ _ _ _ c.put_ack_front.ensures c.put_ack_back.ensures refl (omega arith) ∙ patch_front _ _
