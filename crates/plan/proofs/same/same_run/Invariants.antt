-- `same_run` meets its contract. Invariant: the flag says whether the first i bytes are the same.
use Prim.Native.Nat.{◌≤◌}
use mathlib.Core.Path.{◌≡◌}
use Rattle.plan.specs.Runs.{same_run}
use Rattle.plan.proofs.same.same_run.Given as goal

abbrev pub invariant-loop-i : goal.invariant-loop-i
invariant-loop-i l = (l.i ≤ l.n) × (l.same ≡ same_run l.a l.b l.at l.i)
