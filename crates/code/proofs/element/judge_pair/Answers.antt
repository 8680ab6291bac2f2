-- One law for each way out, in the order of the tests: above g, a half too large, no place for the second, and the pair.
use mathlib.Core.Path.{sym}
use native.Mathlib.Omega.{arith}
use Rattle.code.specs.laws.Steps.{judge_above, judge_first, judge_second, judge_lone, judge-pair}
use Rattle.code.proofs.element.judge_pair.Goals as goal
use Rattle.code.proofs.element.judge_pair.Goals.{then-a-gt65534-via-then-a-gt65534, then-a-gt65534-via-else-a-gt65534+then-b-gt65534}
use Rattle.code.proofs.element.judge_pair.Goals.{else-left-lt2-via-then-left-lt2+else-b-gt0, else-left-lt2-via-else-left-lt2}

pub returns-then-g-a : goal.returns-then-g-a
returns-then-g-a c = sym (let a = c.args in judge_above a.c.kp a.c.krp a.left a.g a.a a.next (omega arith))

pub returns-then-a-gt65534 : goal.returns-then-a-gt65534
returns-then-a-gt65534 c =
    let a = c.args in
    let g = c.if-g-a.false in
    elim c.then-a-gt65534.branch [
      | then-a-gt65534-via-then-a-gt65534 w ↦ sym (judge_first a.c.kp a.c.krp a.left a.g a.a a.next (omega (arith, g)) (omega arith))
      | then-a-gt65534-via-else-a-gt65534+then-b-gt65534 w ↦ sym
          (judge_second a.c.kp a.c.krp a.left a.g a.a a.next (omega (arith, g)) (omega arith) (omega arith))
    ]

pub returns-then-b-gt0 : goal.returns-then-b-gt0
returns-then-b-gt0 c =
    sym
    (let a = c.args in
    judge_lone a.c.kp a.c.krp a.left a.g a.a a.next (omega arith) (omega arith) (omega arith) (omega arith) (omega arith))

pub returns : goal.returns
returns c =
    let a = c.args in
    sym
    (judge-pair a.c.kp a.c.krp a.left a.g a.a a.next _ _ (omega arith) (omega arith) (omega arith)
    (λ l. elim c.else-left-lt2.branch [
      | else-left-lt2-via-then-left-lt2+else-b-gt0 w ↦ omega arith
      | else-left-lt2-via-else-left-lt2 w ↦ absurd (omega arith)
    ]) c.kp_two-kp.ensures c.kr_after-krp.ensures)
