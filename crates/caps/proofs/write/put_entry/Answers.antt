-- `caps::write::put_entry` meets its contract: each patch right behind the one before.
-- Assumes nothing.
use mathlib.Core.Path.{refl}
use native.Mathlib.Omega.{arith}
use Rattle.wire.specs.Le.{bytes16}
use Rattle.wire.specs.laws.Le.{patch_next}
use Rattle.caps.specs.Caps.{entry_of}
use Rattle.caps.proofs.write.put_entry.Goals as goal

pub returns : goal.returns
unfolding bytes16 entry_of
returns c =
    let w2 = patch_next _ _ _ _ _ _ _ c.put_two16.ensures c.put_two8.ensures refl (omega arith) in
    patch_next _ _ _ _ _ _ _ w2 c.put_two8-2.ensures refl (omega arith)
