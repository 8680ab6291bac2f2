-- `is_covering` meets its contract. Invariant: the tiles below k are listed where they differ, and the finger stands at the first number that is not below k.
use Prim.Native.Nat.{◌≤◌}
use Rattle.plan.specs.laws.Cover.{Covering}
use Rattle.plan.proofs.check.is_covering.Given as goal

abbrev pub invariant-loop-k : goal.invariant-loop-k
invariant-loop-k l = (l.k ≤ l.n) × Covering l.old l.new l.w l.h l.picks l.finger l.k
