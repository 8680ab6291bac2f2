-- Its fields, each right behind the one before, are one patch (`patch_next`).
use mathlib.Core.Path.{refl}
use native.Mathlib.Omega.{arith}
use Rattle.wire.specs.Le.{bytes16, bytes32}
use Rattle.wire.specs.laws.Le.{patch_next}
use Rattle.headers.specs.Headers.{channels_of}
use Rattle.headers.proofs.put_channels.Goals as goal

pub returns : goal.returns
unfolding bytes16 bytes32 channels_of
returns c =
    let w2 =
    patch_next _ _ _ _ _ _ _ c.put_head.ensures
    c.put_two8.ensures refl (omega arith) in
    patch_next _ _ _ _ _ _ _ w2 c.put_two16.ensures refl (omega arith)
