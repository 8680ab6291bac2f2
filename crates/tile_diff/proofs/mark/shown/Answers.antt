-- `tile_diff::mark::shown` meets its contract: each return is a row of `shown_at`.
use Prim.Native.Nat.{◌/◌}
use mathlib.Core.Path.{refl, ap, sym, ◌∙◌}
use Rattle.whole.specs.laws.Row.{case_yes, case_no, eq_is, ne_is}
use Rattle.tile_diff.specs.Mark.{dimmed, shown_at}
use Rattle.tile_diff.specs.laws.Count.{small_product, count-over}
use native.Mathlib.Omega.{arith}
use Rattle.tile_diff.proofs.mark.shown.Goals as goal

pub overflow_mul-k : goal.overflow_mul-k
overflow_mul-k c =
    let s = c.args in
    let tiles-over = c.tiles_over in
    omega (arith, small_product {a = s.y / 64} (omega arith) tiles-over.ensures.1)

pub overflow_add-k : goal.overflow_add-k
overflow_add-k c =
    let s = c.args in
    let tiles-over = c.tiles_over in
    omega (arith, small_product {a = s.y / 64} (omega arith) tiles-over.ensures.1)

pub returns-then-count_at-eq0 : goal.returns-then-count_at-eq0
unfolding shown_at
returns-then-count_at-eq0 c =
    let s = c.args in
    let tiles-over = c.tiles_over in
    let count_at = c.count_at in
    let if1 = c.if-count_at-eq0 in
    let dim = c.dim in
    let le16-at = c.le16_at-word in
    case_yes _ _ _ _ (eq_is (count-over s.counts.now s.width s.x s.y _ tiles-over.ensures.0 count_at.ensures) refl if1.true)
    (dim.ensures ∙ ap dimmed le16-at.ensures.0)

pub returns-then-at_edge : goal.returns-then-at_edge
unfolding shown_at
returns-then-at_edge c =
    let s = c.args in
    let tiles-over = c.tiles_over in
    let count_at = c.count_at in
    let if1 = c.if-count_at-eq0 in
    let at_Edge = c.at_edge in
    let if2 = c.if-at_edge in
    case_no _ _ _ _ (ne_is (count-over s.counts.now s.width s.x s.y _ tiles-over.ensures.0 count_at.ensures) refl if1.false)
    (case_yes _ _ _ _ (sym at_Edge.ensures ∙ if2.true) refl)

pub returns-then-at_edge-2 : goal.returns-then-at_edge-2
unfolding shown_at
returns-then-at_edge-2 c =
    let s = c.args in
    let tiles-over = c.tiles_over in
    let count_at = c.count_at in
    let if1 = c.if-count_at-eq0 in
    let at_Edge = c.at_edge in
    let if2 = c.if-at_edge in
    let at-edge2 = c.at_edge-2 in
    let if3 = c.if-at_edge-2 in
    case_no _ _ _ _ (ne_is (count-over s.counts.now s.width s.x s.y _ tiles-over.ensures.0 count_at.ensures) refl if1.false)
    (case_no _ _ _ _ (sym at_Edge.ensures ∙ if2.false) (case_yes _ _ _ _ (sym at-edge2.ensures ∙ if3.true) refl))

pub returns : goal.returns
unfolding shown_at
returns c =
    let s = c.args in
    let tiles-over = c.tiles_over in
    let count_at = c.count_at in
    let if1 = c.if-count_at-eq0 in
    let at_Edge = c.at_edge in
    let if2 = c.if-at_edge in
    let at-edge2 = c.at_edge-2 in
    let if3 = c.if-at_edge-2 in
    let dim2 = c.dim-2 in
    let le16-at = c.le16_at-word in
    case_no _ _ _ _ (ne_is (count-over s.counts.now s.width s.x s.y _ tiles-over.ensures.0 count_at.ensures) refl if1.false)
    (case_no _ _ _ _ (sym at_Edge.ensures ∙ if2.false)
    (case_no _ _ _ _ (sym at-edge2.ensures ∙ if3.false) (dim2.ensures ∙ ap dimmed le16-at.ensures.0)))
