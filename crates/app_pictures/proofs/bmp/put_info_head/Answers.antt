-- Its numbers, one behind the other (`patch_next`).
use Rattle.std.proofs.Common.{refl, arith}
use Rattle.wire.specs.Le.{bytes16, bytes32}
use Rattle.wire.specs.laws.Le.{patch_next}
use Rattle.app_pictures.specs.Bmp.{info_head}
use Rattle.app_pictures.proofs.bmp.put_info_head.Goals as goal

pub returns : goal.returns
unfolding bytes16 bytes32 info_head
returns c =
    let w1 = patch_next _ _ _ _ _ _ _ c.put32_at.ensures c.put32_at-2.ensures refl (omega arith) in
    let w2 = patch_next _ _ _ _ _ _ _ w1 c.put32_at-3.ensures refl (omega arith) in
    let w3 = patch_next _ _ _ _ _ _ _ w2 c.put_two16.ensures refl (omega arith) in
    let w4 = patch_next _ _ _ _ _ _ _ w3 c.put32_at-4.ensures refl (omega arith) in
    w4
