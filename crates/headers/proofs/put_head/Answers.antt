-- `put_head` meets its contract: the length that was opened as 0 is filled in (`patch_refill`). Assumes nothing.
use mathlib.Core.List.{◌++◌}
use native.Mathlib.Omega.{arith}
use Rattle.wire.specs.Le.{bytes16, bytes32, patch}
use Rattle.wire.specs.laws.Le.{patch_refill}
use Rattle.headers.proofs.put_head.Goals as goal

pub returns : goal.returns
unfolding bytes16 bytes32 patch
returns c =
    patch_refill _ _ _ (bytes16 c.args.kind ++ bytes32 0) (bytes32 c.args.size) c.args.at 2 c.open_block.ensures c.put32_at.ensures
    (omega arith) (omega arith)
