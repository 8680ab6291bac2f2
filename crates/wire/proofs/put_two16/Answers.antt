-- Two patches, the second right behind the first, are one (`patch_next`).
use mathlib.Core.Path.{refl}
use native.Mathlib.Omega.{arith}
use Rattle.wire.specs.Le.{bytes16}
use Rattle.wire.specs.laws.Le.{patch_next}
use Rattle.wire.proofs.put_two16.Goals as goal

pub returns : goal.returns
unfolding bytes16
returns c =
    patch_next _ _ _ _ _ _ _ c.put16_at.ensures c.put16_at-2.ensures refl
    (omega arith)
