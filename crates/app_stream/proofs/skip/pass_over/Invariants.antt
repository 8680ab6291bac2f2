-- The whole walk is the walk over what is left.
use Rattle.std.proofs.Common.{◌≡◌, drop}
use Rattle.app_stream.specs.Skip.{skip_from}
use Rattle.app_stream.proofs.skip.pass_over.Given as goal

abbrev pub invariant-loop-at : goal.invariant-loop-at
invariant-loop-at l = skip_from l.fn.from 0 l.bytes ≡ skip_from l.s l.at (drop l.at l.bytes)
