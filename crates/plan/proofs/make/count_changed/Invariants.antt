-- `count_changed` meets its contract. Invariant: of the tiles below k so many differ.
use Prim.Native.Nat.{◌≤◌}
use mathlib.Core.Path.{◌≡◌}
use lib.ListN.{length}
use Rattle.plan.specs.Plan.{those, changed_tile}
use Rattle.plan.proofs.make.count_changed.Given as goal

abbrev pub invariant-loop-k : goal.invariant-loop-k
invariant-loop-k l = (l.k ≤ l.n) × (l.count ≡ length (those (changed_tile l.old l.new l.w l.h) l.k))
