-- `in_range` meets its contract, by its two tests. Assumes nothing.
use mathlib.Core.Path.{◌≡◌, ap, subst, ◌∙◌}
use mathlib.Core.Bool.{true, false}
use lib.IntN.{ℤ, pos, negsuc}
use lib.Signed.{le_z}
use mir.Facts.{to_z-of_z}
use Rattle.plain.specs.laws.Fit.{in_low, in_not}
use Rattle.plain.proofs.in_range.Goals as goal

pub returns-then-v-geminus32767 : goal.returns-then-v-geminus32767
returns-then-v-geminus32767 c =
    let f = to_z-of_z c.ranges.v in
    ap (λ (z : ℤ). le_z z (pos 32767)) f ∙ in_low c.args.v (subst (λ (z : ℤ). le_z (negsuc 32766) z ≡ true) f c.if-v-geminus32767.true)

pub returns-else-v-geminus32767 : goal.returns-else-v-geminus32767
returns-else-v-geminus32767 c =
    let f = to_z-of_z c.ranges.v in
    ap (λ (z : ℤ). le_z (negsuc 32766) z) f ∙ in_not c.args.v (subst (λ (z : ℤ). le_z (negsuc 32766) z ≡ false) f c.if-v-geminus32767.false)
