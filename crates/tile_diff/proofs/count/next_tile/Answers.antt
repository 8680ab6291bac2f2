-- Each turn keeps it, and at the end it is what is promised.
use mathlib.Core.Path.{◌∙◌}
use native.Mathlib.Omega.{arith}
use Rattle.tile_diff.specs.laws.Count.{small_product, some_columns, next_none, next_found, next_past, next_from}
use Rattle.tile_diff.proofs.count.next_tile.Goals as goal

pub overflow_mul-all : goal.overflow_mul-all
overflow_mul-all c = omega (arith, small_product c.tiles_over-columns.ensures.1 c.tiles_over.ensures.1)

pub loop-k-init : goal.loop-k-init
loop-k-init c = next_from _ _ _ _ _ _ c.tiles_over-columns.ensures.0 c.tiles_over.ensures.0

pub line_of-requires : goal.line_of-requires
line_of-requires c =
    let l = c.loop-k in
    let tiles-over = c.tiles_over-columns in
    let tiles-over2 = c.tiles_over in
    let loop-test = c.loop-k-test in
    some_columns l.k tiles-over.result tiles-over2.result loop-test.true

pub returns-then-n-gt0 : goal.returns-then-n-gt0
returns-then-n-gt0 c =
    let loop-test = c.loop-k-test in
    let if1 = c.if-n-gt0 in
    let count_at = c.count_at-n in
    let Line-of = c.line_of in
    let l = c.loop-k in
    next_found _ _ _ _ loop-test.true if1.true count_at.ensures Line-of.ensures ∙ l.invariant

pub loop-k-preserved : goal.loop-k-preserved
loop-k-preserved c =
    let loop-test = c.loop-k-test in
    let count_at = c.count_at-n in
    let if1 = c.if-n-gt0 in
    let l = c.loop-k in
    next_past _ _ _ _ loop-test.true (rw count_at.ensures at if1.false) ∙ l.invariant

pub returns : goal.returns
returns c = next_none _ _ _ _ (omega arith) ∙ c.loop-k.invariant
