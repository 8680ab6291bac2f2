-- Fields one behind the other (`patch_next`), then the length filled in where the zeros stood (`block_closed`).
use mathlib.Core.Path.{refl}
use native.Mathlib.Omega.{arith}
use lib.ListN.{drop}
use Rattle.wire.specs.Le.{bytes16, bytes32}
use Rattle.wire.specs.laws.Le.{patch_next}
use Rattle.frame_layout.specs.Bytes.{begin_of}
use Rattle.frame_pieces.specs.laws.Parts.{block_closed}
use Rattle.frame_pieces.proofs.put_begin.Goals as goal

pub returns : goal.returns
unfolding bytes16 bytes32 begin_of
returns c =
    let w1 = c.open_block.ensures in
    let w2 = patch_next _ _ _ _ _ _ _ w1 c.put_two8.ensures refl (omega arith) in
    let w3 = patch_next _ _ _ _ _ _ _ w2 c.put32_at.ensures refl (omega arith) in
    let w4 = patch_next _ _ _ _ _ _ _ w3 c.put16_at.ensures refl (omega arith) in
    block_closed _ _ _ 0 0xCCC4 14 (drop 6 (begin_of c.args.idx)) w4 c.put32_at-2.ensures (omega arith)
