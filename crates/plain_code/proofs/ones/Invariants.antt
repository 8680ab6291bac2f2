-- What the loop keeps, and what falls with each turn.
use Prim.Native.Nat.{◌+◌}
use mathlib.Core.Path.{◌≡◌}
use lib.ListN.{drop}
use Rattle.bits.specs.Bits.{bits_of}
use Rattle.plain_code.specs.Zeros.{ones_in}
use Rattle.plain_code.proofs.ones.Given as goal

abbrev pub invariant-loop-v : goal.invariant-loop-v
invariant-loop-v l = ones_in (drop (l.from + l.v) (bits_of l.s)) + l.v ≡ ones_in (drop l.from (bits_of l.s))

abbrev pub decreases-loop-v : goal.decreases-loop-v
decreases-loop-v l = ones_in (drop (l.from + l.v) (bits_of l.s))
