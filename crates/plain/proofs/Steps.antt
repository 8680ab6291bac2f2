-- The steps that the three colours share.
use Prim.Native.Nat.{ℕ, ◌*◌, ◌^◌}
use lib.Dec.{T, ltb}
use lib.IntN.{ℤ, pos, ◌+ℤ◌, ◌*ℤ◌}
use mir.Syntax.{w32, w64}
use Rattle.whole.specs.laws.Near.{Near}
use Rattle.whole.specs.Calc.{Calc, arg, lit, add, mul, cast}
use Rattle.colour.specs.Colour.{scaled}

abbrev pub wide : {z : ℤ} → Near 268435456 z → Calc w64 z
wide p = cast w64 (arg w32 p tt) tt

abbrev pub raised : {z : ℤ} → Near 268435456 z → Calc w64 (z +ℤ pos 4096)
raised p = add (wide p) (lit w64 (pos 4096) tt) tt

abbrev pub base : {z : ℤ} → Near 268435456 z → Calc w64 (scaled z)
base p = mul (lit w64 (pos 65536) tt) (raised p) tt

abbrev pub times : (k : ℕ) {z : ℤ} → Near 268435456 z → T (ltb k (2 ^ 63)) → T (ltb (k * 268435456) (2 ^ 63)) → Calc w64 (pos k *ℤ z)
times k p t u = mul (lit w64 (pos k) t) (wide p) u
