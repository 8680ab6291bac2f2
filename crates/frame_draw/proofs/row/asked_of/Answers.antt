-- Each turn keeps it, and at the end it is what is promised.
use mathlib.Core.Path.{sym, ◌∙◌}
use native.Mathlib.Omega.{arith}
use Rattle.frame_draw.specs.laws.Search.{some_starts, some_yes, some_more, some_none}
use Rattle.frame_draw.specs.laws.Asked.{asked_none, asked_all}
use Rattle.frame_draw.proofs.row.asked_of.Goals as goal

pub last_of-right-requires : goal.last_of-right-requires
last_of-right-requires c = omega arith

pub last_of-bottom-requires : goal.last_of-bottom-requires
last_of-bottom-requires c = omega arith

pub loop-k-init : goal.loop-k-init
loop-k-init c = (omega arith, some_starts _ _ 0)

pub overflow_mul-tx : goal.overflow_mul-tx
overflow_mul-tx c = omega arith

pub overflow_mul-ty : goal.overflow_mul-ty
overflow_mul-ty c = omega arith

pub rect_covers-requires : goal.rect_covers-requires
rect_covers-requires c = omega arith

pub returns-then-rect_covers : goal.returns-then-rect_covers
returns-then-rect_covers c =
    let here = some_yes _ _ c.loop-k.k c.loop-k-test.true (sym c.rect_covers.ensures ∙ c.if-rect_covers.true) in
    asked_none _ _ _ _ _ _ _ _ c.last_of-right.ensures c.last_of-bottom.ensures (c.loop-k.invariant.1 ∙ sym here)

pub loop-k-preserved : goal.loop-k-preserved
loop-k-preserved c =
    (omega arith, c.loop-k.invariant.1 ∙ some_more _ _ c.loop-k.k c.loop-k-test.true (sym c.rect_covers.ensures ∙ c.if-rect_covers.false))

pub returns : goal.returns
returns c =
    let none = some_none _ _ c.loop-k.k (omega arith) in
    asked_all _ _ _ _ _ _ _ _ c.last_of-right.ensures c.last_of-bottom.ensures (c.loop-k.invariant.1 ∙ sym none)
