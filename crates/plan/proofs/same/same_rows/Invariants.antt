-- `same_rows` meets its contract. Rows with nothing between them are one run; else, invariant: the first r rows are the same.
use Prim.Native.Nat.{◌+◌, ◌*◌, ◌≤◌}
use mathlib.Core.Path.{◌≡◌}
use mathlib.Core.Bool.{true}
use Rattle.plan.specs.Plan.{all_below}
use Rattle.plan.specs.Runs.{same_run}
use Rattle.plan.proofs.same.same_rows.Given as goal

abbrev pub invariant-loop-r : goal.invariant-loop-r
invariant-loop-r l = (l.r ≤ l.rows) × (true ≡ all_below (λ q. same_run l.a l.b (l.at + q * l.step) l.n) l.r)
