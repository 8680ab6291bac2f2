-- Invariant (`DoneBy`): to the places before `from`, where a band begins, it is done, the others are as they were.
use Rattle.std.proofs.Common.{◌≤◌, ◌-◌}
use Rattle.bands.specs.Bands.{quant_at}
use Rattle.bands.specs.laws.Part.{DoneBy}
use Rattle.bands.proofs.each_band.Given as goal

abbrev pub invariant-loop-from : goal.invariant-loop-from
invariant-loop-from g l = (l.from ≤ 4096) × DoneBy (λ k x y. goal.F-post g l.f (quant_at l.q.v k) x y) l.from l.initial.work l.work

abbrev pub decreases-loop-from : goal.decreases-loop-from
decreases-loop-from g l = 4096 - l.from
