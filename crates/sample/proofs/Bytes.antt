-- A byte as a signed number.
-- Assumes nothing.
use mathlib.Core.Path.{◌≡◌, sym, subst}
use Prim.Native.Nat.{ℕ, ◌<◌}
use native.Mathlib.Omega.{arith}
use lib.IntN.{ℤ, pos}
use Rattle.whole.specs.laws.Near.{Near}
use Rattle.sample.specs.Compare.{number_of}

pub byte_near : {z : ℤ} (n : ℕ) → n < 256 → z ≡ pos n → Near 255 z
byte_near n h e = subst (Near 255) (sym e) (record { near = omega arith })

pub number-of : {a b x y : ℤ} → a ≡ x → b ≡ y → number_of a b ≡ number_of x y
number-of p q = cc
