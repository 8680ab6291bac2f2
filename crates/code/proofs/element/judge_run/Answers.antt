-- One law for each way out: too large (`run_wide`), no place left (`run_over`), the value (`run_one`).
use mathlib.Core.Path.{sym}
use native.Mathlib.Omega.{arith}
use Rattle.code.specs.laws.Steps.{run_wide, run_over, run_one}
use Rattle.code.proofs.element.judge_run.Goals as goal

pub returns-then-g-gt32766 : goal.returns-then-g-gt32766
returns-then-g-gt32766 c = sym (let a = c.args in run_wide a.c.kp a.c.krp a.left a.z a.sign a.g a.next (omega arith))

pub returns-then-left-z : goal.returns-then-left-z
returns-then-left-z c = sym (let a = c.args in run_over a.c.kp a.c.krp a.left a.z a.sign a.g a.next (omega arith) (omega arith))

pub returns : goal.returns
returns c =
    sym
    (let a = c.args in
    run_one a.c.kp a.c.krp a.left a.z a.sign a.g a.next _ _ (omega arith) (omega arith) c.less-kp.ensures
    c.kr_after-krp.ensures)
