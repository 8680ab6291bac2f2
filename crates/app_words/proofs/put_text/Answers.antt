-- The part lent comes back as the text, and the whole is patched with it (`patched`).
use mathlib.Core.Path.{refl}
use Rattle.std.specs.Prelude.{length}
use Rattle.wire.specs.laws.Le.{patched}
use Rattle.app_words.proofs.put_text.Goals as goal

pub returns : goal.returns
returns c =
    let a = c.args in
    record { behind = refl; left = patched a.out.now _ _ a.at (length a.text.now) c.copy_from_slice.ensures.after refl }
