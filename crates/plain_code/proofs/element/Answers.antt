-- `element` meets its contract: by kp, then by the mode. Assumes nothing.
use mathlib.Core.Path.{sym, ◌∙◌}
use native.Mathlib.Omega.{arith}
use Rattle.bits.specs.Bits.{bits_of}
use Rattle.code.specs.laws.Steps.{elem_low_two, elem_low_one, elem_high}
use Rattle.plain_code.proofs.element.Goals as goal

pub returns-then-c-ge8 : goal.returns-then-c-ge8
returns-then-c-ge8 c =
    let a = c.args in
    c.run.ensures ∙ sym (elem_high a.rlgr3 a.c.kp a.c.krp a.left a.c.at (bits_of a.s.now) c.if-c-ge8.true)

pub returns-then-rlgr3 : goal.returns-then-rlgr3
returns-then-rlgr3 c =
    let a = c.args in
    c.two.ensures ∙ rw c.if-rlgr3.true (sym (elem_low_two a.c.kp a.c.krp a.left a.c.at (bits_of a.s.now) (omega arith)))

pub returns-else-rlgr3 : goal.returns-else-rlgr3
returns-else-rlgr3 c =
    let a = c.args in
    c.one.ensures ∙ rw c.if-rlgr3.false (sym (elem_low_one a.c.kp a.c.krp a.left a.c.at (bits_of a.s.now) (omega arith)))
