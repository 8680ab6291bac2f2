-- Two hashes of a byte, one after the other.
use Rattle.app_recording.specs.Hash.{hashed_two}
use Rattle.app_recording.proofs.lent.with_two.Goals as goal

pub returns : goal.returns
unfolding hashed_two
returns c = cc
