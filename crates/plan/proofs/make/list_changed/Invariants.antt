-- `list_changed` meets its contract. Invariant: the numbers of the tiles below k that differ stand in the list, and i says how many.
use Prim.Native.Nat.{◌≤◌}
use Rattle.plan.specs.Plan.{changed_tile}
use Rattle.plan.specs.laws.Changed.{Listing}
use Rattle.plan.proofs.make.list_changed.Given as goal

abbrev pub invariant-loop-k : goal.invariant-loop-k
invariant-loop-k l = (l.k ≤ l.n) × Listing (changed_tile l.old l.new l.w l.h) l.initial.out l.out l.i l.k
