-- A byte by exclusive or, then times the prime.
use Rattle.app_recording.specs.Hash.{hashed}
use Rattle.std.proofs.Common.{rules}
use Rattle.app_recording.proofs.lent.with_byte.Goals as goal

pub returns : goal.returns
unfolding hashed
returns c = search rules
