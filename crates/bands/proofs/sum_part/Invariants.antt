-- Invariant: s is the sum of the places passed, each of them holds its own sum, the others are as they were (`Done`).
use Rattle.std.proofs.Common.{◌≡◌, ◌+◌}
use Rattle.whole.specs.Tab.{at}
use Rattle.bands.specs.Bands.{sum_to}
use Rattle.bands.specs.laws.Part.{Done}
use Rattle.bands.proofs.sum_part.Given as goal

abbrev pub invariant-loop-v : goal.invariant-loop-v
invariant-loop-v l = (l.s ≡ sum_to (at l.initial.part) l.v-index) × Done (λ k. sum_to (at l.initial.part) (k + 1)) l.v-index l.initial.part l.part
