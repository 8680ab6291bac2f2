-- The hash of what is passed (`Hashing`).
use Rattle.app_recording.specs.laws.Hash.{Hashing}
use Rattle.app_recording.proofs.lent.hash.Given as goal

abbrev pub invariant-loop-x : goal.invariant-loop-x
invariant-loop-x g l = Hashing g.T.Hashed.hashed l.s l.h l.x-index
