-- `code::element::judge_one` meets its contract: too large a number is refused, any other is the value. Assumes nothing.
use mathlib.Core.Path.{refl, sym}
use Rattle.code.specs.laws.Steps.{one_wide, one_ok}
use Rattle.code.proofs.element.judge_one.Goals as goal

pub returns-then-g-gt65534 : goal.returns-then-g-gt65534
returns-then-g-gt65534 c = let a = c.args in sym (one_wide a.c.kp a.c.krp _ a.g a.next refl c.if-g-gt65534.true)

pub returns : goal.returns
returns c =
    let a = c.args in
    sym (one_ok a.c.kp a.c.krp _ a.g a.next _ _ refl c.if-g-gt65534.false c.kp_one-kp.ensures c.kr_after-krp.ensures)
