-- Each return is one row of `part_start`, with the lengths of the codes before it.
use mathlib.Core.Path.{refl}
use Rattle.whole.specs.laws.Row.{case_yes, case_no, eq_is, ne_is}
use Rattle.frame_blocks.specs.Tiles.{part_start}
use Rattle.frame_blocks.proofs.tile.part_start.Goals as goal

pub returns-then-k-eq0 : goal.returns-then-k-eq0
unfolding part_start
returns-then-k-eq0 c = case_yes _ _ _ _ (eq_is refl refl c.if-k-eq0.true) refl

pub returns-then-k-eq1 : goal.returns-then-k-eq1
unfolding part_start
returns-then-k-eq1 c =
    case_no _ _ _ _ (ne_is refl refl c.if-k-eq0.false) (case_yes _ _ _ _ (eq_is refl refl c.if-k-eq1.true) (rw c.le16_at-y.ensures.0))

pub returns : goal.returns
unfolding part_start
returns c =
    case_no _ _ _ _ (ne_is refl refl c.if-k-eq0.false)
    (case_no _ _ _ _ (ne_is refl refl c.if-k-eq1.false) (rw (c.le16_at-y.ensures.0, c.le16_at-cb.ensures.0)))
