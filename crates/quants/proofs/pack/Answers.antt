-- `quants::pack` meets its contract: both values are at most 15, so the byte holds them. Assumes nothing.
use Prim.Native.Nat.{◌+◌}
use native.Mathlib.Omega.{arith}
use Rattle.quants.proofs.pack.Goals as goal

pub overflow_mul-result : goal.overflow_mul-result
overflow_mul-result c = omega (arith, c.requires.0.high (c.args.k + 1) c.requires.1)

pub overflow_add-result-2 : goal.overflow_add-result-2
overflow_add-result-2 c =
    omega (arith, c.requires.0.high c.args.k (omega arith), c.requires.0.high (c.args.k + 1) c.requires.1)
