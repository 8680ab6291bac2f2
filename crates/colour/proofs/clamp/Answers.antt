-- `colour::clamp` meets its contract: the three answers of the clamp (ColourLaws), by the two tests.
-- Assumes nothing.
use mathlib.Core.Path.{◌≡◌, ◌∙◌, ap, sym, subst}
use mathlib.Core.Bool.{true, false}
use lib.Dec.{T}
use lib.IntN.{ℤ, pos, nat_abs}
use lib.Signed.{non_neg}
use mir.Syntax.{w8}
use mir.Val.{Fits}
use mir.Facts.{to_z-of_z}
use Rattle.whole.specs.laws.Test.{test_l, test_r}
use Rattle.colour.specs.Colour.{clamp_byte}
use Rattle.colour.specs.laws.Colour.{clamp_low, clamp_high, clamp_mid}
use Rattle.colour.proofs.clamp.Goals as goal
use Rattle.colour.proofs.clamp.Goals.{Else-x-gt255}

abbrev x : Else-x-gt255 → ℤ
x c = c.args.x

mid : (c : Else-x-gt255) → T (non_neg (x c)) × Fits w8 (nat_abs (x c)) × (nat_abs (x c) ≡ clamp_byte (x c))
mid c =
    clamp_mid (x c) (test_l (pos 0) false c.ranges.x c.if-x-lt0.false) (test_r (pos 255) false c.ranges.x c.if-x-gt255.false)

pub returns-then-x-lt0 : goal.returns-then-x-lt0
returns-then-x-lt0 c = clamp_low c.args.x (test_l (pos 0) true c.ranges.x c.if-x-lt0.true)

pub returns-then-x-gt255 : goal.returns-then-x-gt255
returns-then-x-gt255 c = clamp_high c.args.x (test_r (pos 255) true c.ranges.x c.if-x-gt255.true)

pub overflow_cast-result : goal.overflow_cast-result
overflow_cast-result c = subst (λ (s : ℤ). T (non_neg s) × Fits w8 (nat_abs s)) (sym (to_z-of_z c.ranges.x))
    ((mid (goal.at.overflow_cast-result c).Else-x-gt255).0, (mid (goal.at.overflow_cast-result c).Else-x-gt255).1)

pub returns : goal.returns
returns c = ap nat_abs (to_z-of_z c.ranges.x) ∙ (mid (goal.at.returns c).Else-x-gt255).2
