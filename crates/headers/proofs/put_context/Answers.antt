-- Its fields, each right behind the one before, are one patch (`patch_next`); the properties are those of the mode.
use mathlib.Core.Path.{refl, ◌∙◌}
use native.Mathlib.Omega.{arith}
use Rattle.wire.specs.Le.{bytes16, bytes32}
use Rattle.wire.specs.laws.Le.{patch_next}
use Rattle.headers.specs.Headers.{context_of}
use Rattle.headers.proofs.put_context.Goals as goal

pub returns : goal.returns
unfolding bytes16 bytes32 context_of
returns c =
    let w2 =
    patch_next _ _ _ _ _ _ _
    c.put_head.ensures
    c.put_two8.ensures refl (omega arith) in
    let w3 = patch_next _ _ _ _ _ _ _ w2 c.put8_at.ensures refl (omega arith) in
    patch_next _ _ _ _ _ _ _ w3 c.put_two16.ensures refl (omega arith) ∙ rw c.properties.ensures
