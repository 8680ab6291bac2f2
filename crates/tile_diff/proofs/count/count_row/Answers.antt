-- Each turn keeps it, and at the end it is what is promised.
use Prim.Native.Nat.{◌/◌}
use mathlib.Core.Path.{refl}
use native.Mathlib.Omega.{arith}
use borrow.Author.Tests.{le-leb, lt-leb}
use Rattle.whole.specs.laws.Row.{passes, fails}
use Rattle.tile_diff.specs.Tiles.{words_of}
use Rattle.tile_diff.specs.Counts.{row_counted}
use Rattle.tile_diff.specs.laws.Words.{few, many}
use Rattle.tile_diff.specs.laws.Count.{small_product, columns_none, columns_next, columns_done}
use Rattle.tile_diff.proofs.count.count_row.Goals as goal

pub returns-then-a-w : goal.returns-then-a-w
unfolding row_counted
returns-then-a-w c =
    let s = c.args in
    let if1 = c.if-a-w in
    fails _ _ _ _ (lt-leb _ _ (few _ s.a.now if1.true)) refl

pub returns-then-b-w : goal.returns-then-b-w
unfolding row_counted
returns-then-b-w c =
    let s = c.args in
    let if1 = c.if-a-w in
    let if2 = c.if-b-w in
    passes _ _ _ _ (le-leb _ _ (many _ s.a.now if1.false)) (fails _ _ _ _ (lt-leb _ _ (few _ s.b.now if2.true)) refl)

pub overflow_mul-first : goal.overflow_mul-first
overflow_mul-first c =
    let s = c.args in
    let tiles-over = c.tiles_over in
    omega (arith, small_product {a = s.y / 64} (omega arith) tiles-over.ensures.1)

pub loop-x-init : goal.loop-x-init
loop-x-init c =
    let s = c.args in
    columns_none (words_of s.a.now) (words_of s.b.now) s.width s.y _

pub overflow_add-first : goal.overflow_add-first
overflow_add-first c =
    let s = c.args in
    let tiles-over = c.tiles_over in
    omega (arith, small_product {a = s.y / 64} (omega arith) tiles-over.ensures.1)

pub count_word-requires : goal.count_word-requires
count_word-requires c = (omega arith, omega arith)

pub loop-x-preserved : goal.loop-x-preserved
loop-x-preserved c =
    let s = c.args in
    let tiles-over = c.tiles_over in
    let count_word = c.count_word in
    let l = c.loop-x in
    columns_next s.a.now s.b.now _ _ _ _ _ _ _ tiles-over.ensures.0 (omega arith) (omega arith) count_word.ensures l.invariant

pub returns : goal.returns
unfolding row_counted
returns c =
    let s = c.args in
    let if1 = c.if-a-w in
    let if2 = c.if-b-w in
    let l = c.loop-x in
    passes _ _ _ _ (le-leb _ _ (many _ s.a.now if1.false))
    (passes _ _ _ _ (le-leb _ _ (many _ s.b.now if2.false))
    (columns_done (words_of s.a.now) (words_of s.b.now) _ _ _ _ _ (omega arith) l.invariant))
