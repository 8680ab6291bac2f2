-- `is_below` meets its contract. Invariant: the first numbers are those of tiles.
use Rattle.std.specs.Prelude.{◌≡◌, ◌≤◌, true, length}
use Rattle.plan.specs.Plan.{all_below}
use Rattle.plan.specs.laws.Lists.{is_below}
use Rattle.plan.proofs.check.is_below.Given as goal

abbrev pub invariant-loop-k : goal.invariant-loop-k
invariant-loop-k l = (l.k-index ≤ length l.picks) × (true ≡ all_below (is_below l.n l.picks) l.k-index)
