-- `collect::walk_bytes` meets its contract. Invariant: the record takes bytes, and the whole walk is the walk over what is left.
use Prim.Native.Nat.{◌-◌, ◌≤◌}
use mathlib.Core.Path.{◌≡◌}
use lib.ListN.{length, drop}
use Rattle.collect.specs.Collect.{state, walk, collector_fault}
use Rattle.collect.proofs.walk_bytes.Given as goal

abbrev pub invariant-loop-at : goal.invariant-loop-at
invariant-loop-at l =
    ((l.at ≤ length l.bytes) × (length l.store ≡ length l.initial.store))
    × ((0 ≡ collector_fault l.c (length l.store)) × (walk (state l.initial.c l.initial.store) 0 l.bytes ≡ walk (state l.c l.store) l.at (drop l.at l.bytes)))

abbrev pub decreases-loop-at : goal.decreases-loop-at
decreases-loop-at l = length l.bytes - l.at
