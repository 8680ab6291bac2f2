-- Type and zeros: two patches, the second right behind the first, are one (`patch_next`).
use mathlib.Core.Path.{refl}
use native.Mathlib.Omega.{arith}
use Rattle.wire.specs.Le.{bytes16}
use Rattle.wire.specs.laws.Le.{patch_next}
use Rattle.wire.proofs.open_block.Goals as goal

pub returns : goal.returns
unfolding bytes16
returns c =
    patch_next _ _ _ _ _ _ _ c.put16_at.ensures c.put32_at.ensures refl
    (omega arith)
