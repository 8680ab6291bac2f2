-- Fields one behind the other (`patch_next`), then the length filled in where the zeros stood (`block_closed`).
use mathlib.Core.Path.{refl}
use native.Mathlib.Omega.{arith}
use lib.ListN.{drop}
use Rattle.wire.specs.Le.{bytes16, bytes32}
use Rattle.wire.specs.laws.Le.{patch_next}
use Rattle.frame_layout.specs.Bytes.{end_of}
use Rattle.frame_pieces.specs.laws.Parts.{block_closed}
use Rattle.frame_pieces.proofs.put_end.Goals as goal

pub returns : goal.returns
unfolding bytes16 bytes32 end_of
returns c =
    let w1 = c.open_block.ensures in
    let w2 = patch_next _ _ _ _ _ _ _ w1 c.put_two8.ensures refl (omega arith) in
    block_closed _ _ _ c.args.at 0xCCC5 8 (drop 6 end_of) w2 c.put32_at.ensures (omega arith)
