-- Invariant: `sum` is the sum of the places passed, `bad` the count of the sums so far.
use Rattle.std.proofs.Common.{◌≡◌, ℕ, ◌+◌}
use Rattle.whole.specs.Tab.{at}
use Rattle.bands.specs.Bands.{sum_to}
use Rattle.bands.specs.laws.Steps.{overs}
use Rattle.bands.proofs.count_sums.Given as goal

abbrev pub invariant-loop-v : goal.invariant-loop-v
invariant-loop-v l =
    (l.sum ≡ sum_to (at l.part) l.v-index) × (l.bad ≡ overs (λ (k : ℕ). l.m) (λ (k : ℕ). sum_to (at l.part) (k + 1)) l.v-index)
