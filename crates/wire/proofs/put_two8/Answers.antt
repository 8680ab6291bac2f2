-- Two patches, the second right behind the first, are one (`patch_next`).
use mathlib.Core.Path.{refl}
use native.Mathlib.Omega.{arith}
use Rattle.wire.specs.laws.Le.{patch_next}
use Rattle.wire.proofs.put_two8.Goals as goal

pub returns : goal.returns
returns c =
    patch_next _ _ _ _ _ _ _ c.put8_at.ensures c.put8_at-2.ensures refl (omega arith)
