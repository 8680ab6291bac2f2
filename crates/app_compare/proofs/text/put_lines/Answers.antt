-- Line after line, as the definition lists them (`lining_more`).
use mathlib.Core.Path.{sym, ◌∙◌}
use Rattle.app_compare.specs.laws.Text.{lining_none, lining_next, lining_more, lining_all}
use native.Mathlib.Omega.{arith}
use Rattle.app_compare.proofs.text.put_lines.Goals as goal

pub loop-j-init : goal.loop-j-init
loop-j-init c =
    lining_none _ _ _ _ c.requires.0 c.requires.1

pub put_line-at-requires : goal.put_line-at-requires
put_line-at-requires c =
    (lining_next c.loop-j.invariant (sym c.next_tile.ensures ∙ c.in-Some.is)).room

pub overflow_add-t : goal.overflow_add-t
overflow_add-t c =
    let m = lining_next c.loop-j.invariant (sym c.next_tile.ensures ∙ c.in-Some.is) in omega (arith, m.few)

pub overflow_add-k : goal.overflow_add-k
overflow_add-k c =
    let m = lining_next c.loop-j.invariant (sym c.next_tile.ensures ∙ c.in-Some.is) in omega (arith, m.below, c.loop-j.invariant.few)

pub loop-j-smaller : goal.loop-j-smaller
loop-j-smaller c =
    (lining_next c.loop-j.invariant (sym c.next_tile.ensures ∙ c.in-Some.is)).less

pub loop-j-preserved : goal.loop-j-preserved
loop-j-preserved c =
    lining_more c.loop-j.invariant (sym c.next_tile.ensures ∙ c.in-Some.is) c.put_line-at.ensures.0 c.put_line-at.ensures.1

pub returns : goal.returns
returns c = lining_all c.loop-j.invariant (sym c.next_tile.ensures ∙ c.in_default.is)
