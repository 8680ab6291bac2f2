-- Two hashes of two bytes, one after the other.
use Rattle.app_recording.specs.Hash.{hashed_four}
use Rattle.app_recording.proofs.lent.with_four.Goals as goal

pub returns : goal.returns
unfolding hashed_four
returns c = cc
