-- Each turn keeps it, and at the end it is what is promised.
use mathlib.Core.Path.{sym, ◌∙◌}
use native.Mathlib.Omega.{arith}
use Rattle.code_write.specs.laws.Item.{zeros_here, zeros_four}
use Rattle.code_write.proofs.put.fours.Goals as goal

pub loop-j-init : goal.loop-j-init
loop-j-init c = (zeros_here _ _, c.requires.1)

pub overflow_sub-end : goal.overflow_sub-end
overflow_sub-end c = c.loop-j.invariant.1

pub four-requires : goal.four-requires
four-requires c =
    (c.requires.0, omega (arith, c.requires.2, c.loop-j.invariant.1, c.loop-j-test.true))

pub returns-then-not-four : goal.returns-then-not-four
returns-then-not-four c = c.loop-j.invariant

pub overflow_add-j : goal.overflow_add-j
overflow_add-j c = omega (arith, c.requires.2, c.loop-j.invariant.1)

pub loop-j-smaller : goal.loop-j-smaller
loop-j-smaller c = omega (arith, c.loop-j-test.true)

pub loop-j-preserved : goal.loop-j-preserved
loop-j-preserved c =
    let l = c.loop-j in
    let f = c.four in
    (zeros_four _ _ l.j (sym (c.if-not-four.false) ∙ f.ensures) l.invariant.0, omega (arith, l.invariant.1, c.loop-j-test.true))

pub returns : goal.returns
returns c = c.loop-j.invariant
