-- The parts of the head, one behind the other (`patch_next`).
use Rattle.std.proofs.Common.{refl, ◌∙◌, arith}
use Rattle.wire.specs.Le.{bytes16, bytes32}
use Rattle.wire.specs.laws.Le.{patch_next, patch_front}
use Rattle.app_pictures.specs.Bmp.{file_head, info_head, info_rest, masks, head_of}
use Rattle.app_pictures.proofs.bmp.put_parts.Goals as goal

pub returns : goal.returns
unfolding bytes16 bytes32 file_head info_head info_rest masks head_of
returns c =
    let w1 = patch_next _ _ _ _ _ _ _ c.put_file_head.ensures c.put_info_head.ensures refl (omega arith) in
    let w2 = patch_next _ _ _ _ _ _ _ w1 c.put_info_rest.ensures refl (omega arith) in
    let w3 = patch_next _ _ _ _ _ _ _ w2 c.put_masks.ensures refl (omega arith) in
    w3 ∙ patch_front _ _
