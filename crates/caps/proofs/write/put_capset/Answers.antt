-- `caps::write::put_capset` meets its contract: each patch right behind the one before.
-- Assumes nothing.
use mathlib.Core.Path.{refl}
use native.Mathlib.Omega.{arith}
use Rattle.wire.specs.Le.{bytes16, bytes32}
use Rattle.wire.specs.laws.Le.{patch_next}
use Rattle.caps.proofs.write.put_capset.Goals as goal

pub returns : goal.returns
unfolding bytes16 bytes32
returns c =
    let w2 = patch_next _ _ _ _ _ _ _ c.put16_at.ensures c.put32_at.ensures refl (omega arith) in
    let w3 = patch_next _ _ _ _ _ _ _ w2 c.put8_at.ensures refl (omega arith) in
    let w4 = patch_next _ _ _ _ _ _ _ w3 c.put16_at-2.ensures refl (omega arith) in
    patch_next _ _ _ _ _ _ _ w4 c.put_two16.ensures refl (omega arith)
