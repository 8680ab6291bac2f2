-- What the loop keeps, and what falls with each turn.
use Prim.Native.Nat.{◌+◌, ◌-◌, ◌≤◌, ◌<◌, ◌^◌}
use mathlib.Core.Path.{◌≡◌}
use Rattle.bits.specs.Bits.{bits_of}
use Rattle.plain_code.specs.Zeros.{num_in}
use Rattle.plain_code.proofs.number.Given as goal

abbrev pub invariant-loop-i : goal.invariant-loop-i
invariant-loop-i l = (l.i ≤ l.k) × (l.n < 2 ^ l.i) × (num_in (l.k - l.i) l.n (l.from + l.i) (bits_of l.s) ≡ num_in l.k 0 l.from (bits_of l.s))

abbrev pub decreases-loop-i : goal.decreases-loop-i
decreases-loop-i l = l.k - l.i
