-- By v: one or no ones, or more (`kr_one`, `kr_none`, `kr_more`); both ends are clamped.
use Prim.Native.Nat.{◌/◌, ◌^◌}
use mathlib.Core.Path.{sym}
use native.Mathlib.Omega.{arith}
use Rattle.code.specs.Code.{kr_after}
use Rattle.code.specs.laws.Steps.{kr_none, kr_one, kr_more}
use Rattle.code.proofs.element.kr_after.Goals as goal

pub returns-then-v-eq1 : goal.returns-then-v-eq1
unfolding kr_after
returns-then-v-eq1 c = sym (kr_one _ _ c.if-v-eq1.true)

pub returns-else-v-eq1 : goal.returns-else-v-eq1
unfolding kr_after
returns-else-v-eq1 c =
    let a = c.args in
    omega (arith, c.less.ensures, kr_none a.krp (a.g / 2 ^ (a.krp / 8)) (omega (arith, c.if-v-lt2.true, c.if-v-eq1.false)))

pub returns-else-v-lt2 : goal.returns-else-v-lt2
unfolding kr_after
returns-else-v-lt2 c =
    let a = c.args in
    omega (arith, c.min.ensures, kr_more a.krp (a.g / 2 ^ (a.krp / 8)) (omega (arith, c.if-v-lt2.false)))
