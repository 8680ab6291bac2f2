-- The two tests are those of `over_is`, once the machine's readings are off.
use Rattle.std.proofs.Common.{◌≡◌, Bool, true, false, ℕ, ◌<◌, ◌∙◌, refl, ap, arith, ℤ, pos, neg_ℤ, nat_abs, ◌-ℤ◌, w32, to_z, of_z, to_z-of_z}
use lib.IntN.{+ℤ_idl}
use mir.Val.{SFits, bool_byte}
use mir.Facts.{to_z_pos}
use Rattle.whole.specs.Row.{◌⇒◌∣◌}
use Rattle.whole.specs.laws.Near.{op, near__}
use Rattle.bands.specs.laws.Range.{over_is}
use Rattle.bands.proofs.over.Goals as goal

-- the limit as the machine has it, and its opposite
most : (m : ℕ) → m < 65536 → to_z w32 m ≡ pos m
most m h = to_z_pos w32 (omega arith)

down_fits : (m : ℕ) → m < 65536 → SFits w32 (pos 0 -ℤ to_z w32 m)
down_fits m h = (op {w = w32} {B = 65535} {s = pos 0 -ℤ to_z w32 m} refl (omega (arith, near__ (pos 0) (to_z w32 m), ap nat_abs (most m h))) tt).fits

down : (m : ℕ) → m < 65536 → to_z w32 (of_z w32 (pos 0 -ℤ to_z w32 m)) ≡ neg_ℤ (pos m)
down m h = to_z-of_z (down_fits m h) ∙ (ap (λ (z : ℤ). pos 0 -ℤ z) (most m h) ∙ +ℤ_idl (neg_ℤ (pos m)))

-- a test as a number
flag : (b : Bool) → bool_byte b ≡ (b ⇒ 1 ∣ 0)
unfolding ◌⇒◌∣◌
flag true = refl
flag false = refl

pub returns : goal.returns
returns c =
    let m : c.args.m < 65536 = omega arith in
    let a = rw (most c.args.m m, to_z-of_z c.ranges.v) at c.from.ensures in
    let b = rw (down c.args.m m, to_z-of_z c.ranges.v) at c.from-2.ensures in
    rw (a, b, flag, flag) (over_is c.args.m c.args.v)
