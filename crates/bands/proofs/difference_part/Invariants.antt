-- Invariant: the last value passed, and the places passed hold differences, the others are as they were (`Done`).
use Rattle.std.proofs.Common.{◌≡◌}
use Rattle.whole.specs.Tab.{at}
use Rattle.bands.specs.Rounding.{diff_at}
use Rattle.bands.specs.laws.Rounding.{last_of}
use Rattle.bands.specs.laws.Part.{Done}
use Rattle.bands.proofs.difference_part.Given as goal

abbrev pub invariant-loop-v : goal.invariant-loop-v
invariant-loop-v l = (l.last ≡ last_of (at l.initial.part) l.v-index) × Done (diff_at (at l.initial.part)) l.v-index l.initial.part l.part
