-- The tile's fields, each right behind the one before, are one patch (`patch_next`); the lengths are 0 as yet.
use mathlib.Core.Path.{refl}
use native.Mathlib.Omega.{arith}
use Rattle.wire.specs.Le.{bytes16, bytes32}
use Rattle.wire.specs.laws.Le.{patch_next}
use Rattle.frame_pieces.specs.Parts.{head_of}
use Rattle.frame_pieces.proofs.put_head.Goals as goal

pub returns : goal.returns
unfolding bytes16 bytes32 head_of
returns c =
    let w1 = c.open_block.ensures in
    let w2 = patch_next _ _ _ _ _ _ _ w1 c.put_two8.ensures refl (omega arith) in
    let w3 = patch_next _ _ _ _ _ _ _ w2 c.put8_at.ensures refl (omega arith) in
    let w4 = patch_next _ _ _ _ _ _ _ w3 c.put_two16.ensures refl (omega arith) in
    let w5 = patch_next _ _ _ _ _ _ _ w4 c.put_two16-2.ensures refl (omega arith) in
    patch_next _ _ _ _ _ _ _ w5 c.put16_at.ensures refl (omega arith)
