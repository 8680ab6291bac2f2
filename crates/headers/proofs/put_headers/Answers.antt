-- Four blocks, each right behind the one before (`patch_next`), from the front of the output (`patch_front`).
use mathlib.Core.Path.{refl, ◌∙◌}
use native.Mathlib.Omega.{arith}
use Rattle.wire.specs.Le.{bytes16, bytes32}
use Rattle.wire.specs.laws.Le.{patch_next, patch_front}
use Rattle.headers.specs.Headers.{headers_of, sync_of, versions_of, channels_of, context_of}
use Rattle.headers.proofs.put_headers.Goals as goal

pub returns : goal.returns
unfolding bytes16 bytes32 sync_of versions_of channels_of context_of headers_of
returns c =
    let w2 =
    patch_next _ _ _ _ _ _ _
    c.put_sync.ensures
    c.put_versions.ensures refl (omega arith) in
    let w3 = patch_next _ _ _ _ _ _ _ w2 c.put_channels.ensures refl (omega arith) in
    let w4 = patch_next _ _ _ _ _ _ _ w3 c.put_context.ensures refl (omega arith) in w4 ∙ patch_front _ _
