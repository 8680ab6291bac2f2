-- `kp_one` meets its contract, by cases. Assumes nothing.
use mathlib.Core.Path.{sym, ◌∙◌}
use Rattle.code.specs.laws.Steps.{kp_zero, kp_some}
use Rattle.plain_code.proofs.kp_one.Goals as goal

pub returns-then-v-eq0 : goal.returns-then-v-eq0
returns-then-v-eq0 c = c.more.ensures ∙ sym (kp_zero _ _ c.if-v-eq0.true)

pub returns-else-v-eq0 : goal.returns-else-v-eq0
returns-else-v-eq0 c = c.less.ensures ∙ sym (kp_some _ _ c.if-v-eq0.false)
