-- `caps::write::put_caps` meets its contract: the fields in front, the capset, the entries.
-- Assumes nothing.
use mathlib.Core.Path.{refl, ◌∙◌}
use native.Mathlib.Omega.{arith}
use Rattle.wire.specs.Le.{bytes16, bytes32}
use Rattle.wire.specs.laws.Le.{patch_next, patch_front}
use Rattle.caps.specs.Caps.{caps_of, block_of, capset_of}
use Rattle.caps.proofs.write.put_caps.Goals as goal

pub returns : goal.returns
unfolding bytes16 bytes32 caps_of block_of capset_of
returns c =
    let w2 = patch_next _ _ _ _ _ _ _ c.put_front.ensures c.put_capset.ensures refl (omega arith) in
    patch_next _ _ _ _ _ _ _ w2 (rw c.entries_in.ensures at c.put_entries.ensures) refl (omega arith) ∙ patch_front _ _
