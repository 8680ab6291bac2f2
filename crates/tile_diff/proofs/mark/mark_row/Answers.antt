-- Each turn keeps it, and at the end it is what is promised.
use mathlib.Core.Path.{refl}
use native.Mathlib.Omega.{arith}
use borrow.Author.Tests.{le-leb, lt-leb}
use Rattle.whole.specs.laws.Row.{passes, fails}
use Rattle.tile_diff.specs.Tiles.{words_of}
use Rattle.tile_diff.specs.Mark.{row_marked}
use Rattle.tile_diff.specs.laws.Words.{few, many}
use Rattle.tile_diff.specs.laws.Mark.{marked_none, marked_next, marked_done, marked_length}
use Rattle.tile_diff.proofs.mark.mark_row.Goals as goal

pub returns-then-row-width : goal.returns-then-row-width
unfolding row_marked
returns-then-row-width c =
    let s = c.args in
    let if1 = c.if-row-width in
    fails _ _ _ _ (lt-leb _ _ (few _ s.row.now if1.true)) refl

pub returns-then-out-width : goal.returns-then-out-width
unfolding row_marked
returns-then-out-width c =
    let s = c.args in
    let if1 = c.if-row-width in
    let if2 = c.if-out-width in
    passes _ _ _ _ (le-leb _ _ (many _ s.row.now if1.false)) (fails _ _ _ _ (lt-leb _ _ if2.true) refl)

pub loop-x-init : goal.loop-x-init
loop-x-init c =
    let s = c.args in
    marked_none (words_of s.row.now) s.width s.height s.y s.counts.now _

pub shown-requires : goal.shown-requires
shown-requires c = omega arith

pub bounds-out-x : goal.bounds-out-x
bounds-out-x c =
    let l = c.loop-x in
    let s = c.args in
    rw l.invariant (omega (arith, marked_length (words_of s.row.now) s.width s.height s.y s.counts.now l.x s.out.now))

pub loop-x-preserved : goal.loop-x-preserved
loop-x-preserved c =
    let s = c.args in
    let shown = c.shown in
    let l = c.loop-x in
    marked_next s.row.now _ _ _ _ _ _ _ _ (omega arith) shown.ensures l.invariant

pub returns : goal.returns
unfolding row_marked
returns c =
    let s = c.args in
    let if1 = c.if-row-width in
    let if2 = c.if-out-width in
    let l = c.loop-x in
    passes _ _ _ _ (le-leb _ _ (many _ s.row.now if1.false))
    (passes _ _ _ _ (le-leb _ _ if2.false)
    (marked_done (words_of s.row.now) s.width s.height s.y s.counts.now _ _ _ (omega arith) l.invariant))
