-- Invariant (`DoneBy`): to the places passed it is done, the others are as they were.
use Rattle.bands.specs.laws.Part.{DoneBy}
use Rattle.bands.proofs.each_value.Given as goal

abbrev pub invariant-loop-v : goal.invariant-loop-v
invariant-loop-v g l = DoneBy (λ k x y. goal.F-post g l.f x y) l.v-index l.initial.part l.part
