-- No more arguments were found than were passed. The measure is how many are left; each turn passes at least one.
use Rattle.std.proofs.Common.{◌-◌, ◌≤◌}
use Rattle.app_text.proofs.arguments.find_below.Given as goal

abbrev pub invariant-loop-i : goal.invariant-loop-i
invariant-loop-i g l = l.found.times ≤ l.i

abbrev pub decreases-loop-i : goal.decreases-loop-i
decreases-loop-i g l = l.n - l.i
