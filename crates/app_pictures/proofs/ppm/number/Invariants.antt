-- What the loop keeps, and what falls with each turn.
use Rattle.std.proofs.Common.{◌≡◌, ◌-◌, length}
use Rattle.app_pictures.specs.Ppm.{figure_at, digits_from}
use Rattle.app_pictures.proofs.ppm.number.Given as goal

abbrev pub invariant-loop-at : goal.invariant-loop-at
invariant-loop-at l = figure_at l.m l.from ≡ digits_from l.m (length l.m - l.at) l.value l.at

abbrev pub decreases-loop-at : goal.decreases-loop-at
decreases-loop-at l = length l.m - l.at
