-- What the loop keeps, and what falls with each turn.
use Prim.Native.Nat.{ℕ, ◌*◌, ◌/◌, ◌%◌, ◌≤◌}
use mathlib.Core.Path.{◌≡◌}
use lib.ListN.{drop}
use Rattle.whole.specs.Tab.{at}
use Rattle.bands.specs.laws.Part.{Done}
use Rattle.plain.specs.laws.Lines.{rows_at}
use Rattle.plain.proofs.rows.Given as goal

abbrev pub invariant-loop-k : goal.invariant-loop-k
invariant-loop-k l = (l.k-end ≡ 2 * l.n * (2 * l.n)) × (l.k ≤ 2 * l.n * (2 * l.n)) × Done
    (λ (i : ℕ). rows_at l.n (at (drop l.from l.src)) (i / (2 * l.n)) (i % (2 * l.n))) l.k l.initial.dst l.dst
