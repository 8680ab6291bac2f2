-- All that is passed is v.
use Rattle.std.proofs.Common.{◌≡◌, take, replicate}
use Rattle.app_recording.proofs.lent.all_are.Given as goal

abbrev pub invariant-loop-x : goal.invariant-loop-x
invariant-loop-x l = take l.x-index l.list ≡ replicate l.x-index l.v
