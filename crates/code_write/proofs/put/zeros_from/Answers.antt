-- Each turn keeps it, and at the end it is what is promised.
use mathlib.Core.Path.{refl, sym, ◌∙◌}
use mathlib.Core.List.{map}
use native.Mathlib.Omega.{arith}
use lib.ListN.{length-map}
use Rattle.code.specs.Fold.{fold_z}
use Rattle.code_write.specs.laws.Item.{zeros_one, zeros_stop, zeros_most}
use Rattle.code_write.proofs.put.zeros_from.Goals as goal

pub returns-then-folded_at-ne0 : goal.returns-then-folded_at-ne0
returns-then-folded_at-ne0 c =
    let l = c.loop-j in
    let xs = c.args.xs.now in
    let h = c.clipped-end.ensures in
    let t = c.loop-j-test.true in
    let f = c.folded_at.ensures in
    let m = zeros_stop (map fold_z xs) l.j (omega (arith, h, t, length-map xs fold_z)) (λ e. c.if-folded_at-ne0.true (f ∙ e)) in
    omega (arith, h, t, l.invariant.up, l.invariant.zeros, m)

pub loop-j-preserved : goal.loop-j-preserved
loop-j-preserved c =
    let l = c.loop-j in
    let xs = c.args.xs.now in
    let h = c.clipped-end.ensures in
    zeros_one (map fold_z xs) _ l.j _ refl (omega (arith, h, c.loop-j-test.true, length-map xs fold_z))
    (sym c.folded_at.ensures ∙ c.if-folded_at-ne0.false) l.invariant

pub returns : goal.returns
returns c =
    let l = c.loop-j in
    let xs = c.args.xs.now in
    let h = c.clipped-end.ensures in
    omega (arith, h, c.loop-j-test.false, l.auto.j-end, l.invariant.up, l.invariant.zeros, zeros_most (map fold_z xs) l.j, length-map xs fold_z)
