-- Four bytes at a place: the part lent comes back as the number's bytes, and the whole is patched with it (`patched`).
use mathlib.Core.Path.{refl}
use Rattle.wire.specs.laws.Le.{patched}
use Rattle.wire.specs.Le.{bytes32}
use Rattle.wire.proofs.put32_at.Goals as goal

pub returns : goal.returns
unfolding bytes32
returns c =
    let a = c.args in
    patched a.out.now _ _ a.at 4 c.put32.ensures refl
