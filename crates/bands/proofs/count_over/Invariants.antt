-- Invariant: `bad` is the count of the places passed.
use Rattle.std.proofs.Common.{◌≡◌, ℕ}
use Rattle.whole.specs.Tab.{at}
use Rattle.bands.specs.laws.Steps.{overs}
use Rattle.bands.proofs.count_over.Given as goal

abbrev pub invariant-loop-v : goal.invariant-loop-v
invariant-loop-v l = l.bad ≡ overs (λ (k : ℕ). l.m) (at l.part) l.v-index
