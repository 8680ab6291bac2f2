-- `bands::count_bands` meets its contract. The loop's invariant: `bad` is the count of the places before `from`, where a band begins. Assumes nothing.
use Prim.Native.Nat.{◌-◌, ◌≤◌}
use mathlib.Core.Path.{◌≡◌}
use Rattle.whole.specs.Tab.{at}
use Rattle.bands.specs.laws.Steps.{overs, limit_at}
use Rattle.bands.proofs.count_bands.Given as goal

abbrev pub invariant-loop-from : goal.invariant-loop-from
invariant-loop-from l = (l.from ≤ 4032) × (l.bad ≡ overs (limit_at l.q.v) (at l.work) l.from)

abbrev pub decreases-loop-from : goal.decreases-loop-from
decreases-loop-from l = 4032 - l.from
