-- `tile_diff::count::count_word` meets its contract: the two cases of `counted_if`.
use mathlib.Core.Path.{refl}
use Rattle.whole.specs.laws.Row.{case_yes, case_no}
use Rattle.tile_diff.specs.Counts.{counted_if}
use Rattle.tile_diff.specs.laws.Count.{not-same, same}
use Rattle.tile_diff.proofs.count.count_word.Goals as goal

pub returns-then-le16_at : goal.returns-then-le16_at
unfolding counted_if
returns-then-le16_at c =
    let le16-at = c.le16_at in
    let le16-at2 = c.le16_at-2 in
    let if1 = c.if-le16_at in
    let add-one = c.add_one in
    case_yes _ _ _ _ (not-same le16-at.ensures.0 le16-at2.ensures.0 if1.true) add-one.ensures

pub returns-else-le16_at : goal.returns-else-le16_at
unfolding counted_if
returns-else-le16_at c =
    let le16-at = c.le16_at in
    let le16-at2 = c.le16_at-2 in
    let if1 = c.if-le16_at in
    case_no _ _ _ _ (same le16-at.ensures.0 le16-at2.ensures.0 if1.false) refl
