-- `record_after` meets its contract: a law of proofs/Laws for each return; a block without a fault is as long as its fields ask for.
use mathlib.Core.Path.{sym, ◌∙◌}
use native.Mathlib.Omega.{arith}
use Rattle.session.specs.Header.{tiles_over}
use Rattle.session.specs.laws.Header.{size2, size3}
use Rattle.session.proofs.Laws.{after_sync, after_versions, after_channels, after_context}
use Rattle.session.proofs.record_after.Goals as goal

pub returns-then-t-eq52416 : goal.returns-then-t-eq52416
unfolding tiles_over
returns-then-t-eq52416 c = after_sync _ _ _ c.le16_at-t.ensures.0 c.if-t-eq52416.true _ c.kept_glass.ensures

pub returns-then-t-eq52417 : goal.returns-then-t-eq52417
returns-then-t-eq52417 c =
    after_versions _ _ _ _ c.le16_at-t.ensures.0 c.requires c.if-t-eq52417.true c.step.ensures

pub le16_at-width-requires : goal.le16_at-width-requires
le16_at-width-requires c =
    let g = c.requires in
    omega (arith, size2 _ (sym c.le16_at-t.ensures.0 ∙ c.if-t-eq52418.true))

pub le16_at-height-requires : goal.le16_at-height-requires
le16_at-height-requires c =
    let g = c.requires in
    omega (arith, size2 _ (sym c.le16_at-t.ensures.0 ∙ c.if-t-eq52418.true))

pub returns-then-t-eq52418 : goal.returns-then-t-eq52418
returns-then-t-eq52418 c =
    after_channels _ _ _ _ c.le16_at-t.ensures.0 c.requires c.if-t-eq52418.true _ _ c.le16_at-width.ensures.0
    c.le16_at-height.ensures.0 c.of_glass.ensures

pub le16_at-requires : goal.le16_at-requires
le16_at-requires c =
    let g = c.requires in
    omega (arith, size3 _ (sym c.le16_at-t.ensures.0 ∙ omega (arith, g.head.least, g.head.known)))

pub returns : goal.returns
returns c =
    after_context _ _ _ _ c.le16_at-t.ensures.0 c.requires c.if-t-eq52416.false c.if-t-eq52417.false c.if-t-eq52418.false _
    (c.et_of.ensures.0 ∙ rw c.le16_at.ensures.0) c.step-2.ensures
