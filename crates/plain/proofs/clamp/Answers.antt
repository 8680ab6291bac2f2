-- `clamp` meets its contract: its three answers, by the two tests. Assumes nothing.
use mathlib.Core.Path.{◌≡◌, ◌∙◌, ap, sym, subst}
use mathlib.Core.Bool.{true, false}
use lib.Dec.{T}
use lib.IntN.{ℤ, pos, nat_abs}
use lib.Signed.{non_neg}
use mir.Syntax.{w8}
use mir.Val.{Fits}
use mir.Facts.{to_z-of_z}
use Rattle.whole.specs.laws.Test.{test_l, test_r}
use Rattle.colour.specs.Colour.{clamp_byte}
use Rattle.colour.specs.laws.Colour.{clamp_low, clamp_high, clamp_mid}
use Rattle.plain.proofs.clamp.Goals as goal
use Rattle.plain.proofs.clamp.Goals.{Else-x-gt255}

mid : (c : Else-x-gt255) → T (non_neg c.args.x) × Fits w8 (nat_abs c.args.x) × (nat_abs
    c.args.x ≡ clamp_byte c.args.x)
mid c =
    let args = c.args in
    let fits = c.ranges in
    clamp_mid args.x (test_l (pos 0) false fits.x c.if-x-lt0.false)
    (test_r (pos 255) false fits.x c.if-x-gt255.false)

pub returns-then-x-lt0 : goal.returns-then-x-lt0
returns-then-x-lt0 c = clamp_low c.args.x (test_l (pos 0) true c.ranges.x c.if-x-lt0.true)

pub overflow_cast-result : goal.overflow_cast-result
overflow_cast-result c =
    let fits = c.ranges in
    subst (λ (s : ℤ). T (non_neg s) × Fits w8 (nat_abs s)) (sym (to_z-of_z fits.x)) (
      (mid (goal.at.overflow_cast-result c).Else-x-gt255).0,
      (mid (goal.at.overflow_cast-result c).Else-x-gt255).1,
    )

pub returns-then-x-gt255 : goal.returns-then-x-gt255
returns-then-x-gt255 c =
    let args = c.args in
    let fits = c.ranges in
    clamp_high args.x (test_r (pos 255) true fits.x c.if-x-gt255.true)

pub returns-else-x-gt255 : goal.returns-else-x-gt255
returns-else-x-gt255 c =
    let fits = c.ranges in
    ap nat_abs (to_z-of_z fits.x) ∙ (mid (goal.at.returns-else-x-gt255 c).Else-x-gt255).2
