-- `kr_after` meets its contract: one law for each way out. Assumes nothing.
use Prim.Native.Nat.{◌/◌, ◌^◌}
use mathlib.Core.Path.{sym, ◌∙◌}
use native.Mathlib.Omega.{arith}
use Rattle.code.specs.Code.{kr_after}
use Rattle.code.specs.laws.Steps.{kr_none, kr_one, kr_more}
use Rattle.plain_code.proofs.kr_after.Goals as goal

pub returns-then-v-eq0 : goal.returns-then-v-eq0
unfolding kr_after
returns-then-v-eq0 c = c.less.ensures ∙ sym (kr_none _ _ c.if-v-eq0.true)

pub returns-then-v-eq1 : goal.returns-then-v-eq1
unfolding kr_after
returns-then-v-eq1 c = sym (kr_one _ _ c.if-v-eq1.true)

pub returns-else-v-eq1 : goal.returns-else-v-eq1
unfolding kr_after
returns-else-v-eq1 c =
    let a = c.args in
    c.more.ensures ∙ sym (kr_more a.krp (a.g / 2 ^ (a.krp / 8)) (omega (arith, c.if-v-eq0.false, c.if-v-eq1.false)))
