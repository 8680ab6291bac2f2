-- One law for each of the four ways: both zero, one of them, none (`kp_00` to `kp_11`).
use mathlib.Core.Path.{sym, ◌∙◌}
use Rattle.code.specs.laws.Steps.{kp_00, kp_01, kp_10, kp_11}
use Rattle.code.proofs.element.kp_two.Goals as goal

pub returns-then-b-eq0 : goal.returns-then-b-eq0
returns-then-b-eq0 c = c.more.ensures ∙ sym (kp_00 _ _ _ c.if-a-eq0.true c.if-b-eq0.true)

pub returns-else-b-eq0 : goal.returns-else-b-eq0
returns-else-b-eq0 c = sym (kp_01 _ _ _ c.if-a-eq0.true c.if-b-eq0.false)

pub returns-then-b-eq0-2 : goal.returns-then-b-eq0-2
returns-then-b-eq0-2 c = sym (kp_10 _ _ _ c.if-a-eq0.false c.if-b-eq0-2.true)

pub returns-else-b-eq0-2 : goal.returns-else-b-eq0-2
returns-else-b-eq0-2 c = c.less.ensures ∙ sym (kp_11 _ _ _ c.if-a-eq0.false c.if-b-eq0-2.false)
