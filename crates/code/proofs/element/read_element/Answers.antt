-- k above 0 is a run (`elem_high`); k = 0 is a pair or a single value by the mode (`elem_low_two`, `elem_low_one`).
use mathlib.Core.Path.{sym, ◌∙◌}
use native.Mathlib.Omega.{arith}
use Rattle.bits.specs.Bits.{bits_of}
use Rattle.code.specs.laws.Steps.{elem_low_two, elem_low_one, elem_high}
use Rattle.code.proofs.element.read_element.Goals as goal

pub returns-then-c-ge8 : goal.returns-then-c-ge8
returns-then-c-ge8 c =
    let a = c.args in c.run.ensures ∙ sym (elem_high a.rlgr3 a.c.kp a.c.krp a.left a.c.at (bits_of a.s.now) c.if-c-ge8.true)

pub returns-then-rlgr3 : goal.returns-then-rlgr3
returns-then-rlgr3 c =
    let a = c.args in
    c.pair.ensures
    ∙ rw c.if-rlgr3.true (sym (elem_low_two a.c.kp a.c.krp a.left a.c.at (bits_of a.s.now) (omega (arith, c.if-c-ge8.false))))

pub returns-else-rlgr3 : goal.returns-else-rlgr3
returns-else-rlgr3 c =
    let a = c.args in
    c.single.ensures
    ∙ rw c.if-rlgr3.false (sym (elem_low_one a.c.kp a.c.krp a.left a.c.at (bits_of a.s.now) (omega (arith, c.if-c-ge8.false))))
