-- The bytes come back as the text in the part lent, behind what is there (`patched`, `put_copy`).
use Rattle.std.proofs.Common.{length, refl, ap, sym, ◌∙◌}
use Rattle.std.proofs.Math.Seq.{take-length}
use Rattle.wire.specs.Le.{patch}
use Rattle.wire.specs.laws.Le.{patched}
use Rattle.app_compare.specs.laws.Text.{put_copy}
use Rattle.app_compare.proofs.text.put.Goals as goal

pub returns : goal.returns
returns c =
    let a = c.args in
    let whole = patched a.out.now _ _ a.at (length a.text.now) c.copy_from_slice.ensures.after refl in
    put_copy _ _ a.text.now a.at c.requires (whole ∙ ap (patch a.out.now a.at) (sym (take-length a.text.now)))
