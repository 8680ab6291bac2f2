-- The hash of what is passed, element by element (`Hashing`).
use Rattle.std.proofs.Common.{ap, ◌∙◌, arith}
use Rattle.app_recording.specs.laws.Hash.{hash_none, hash_more, hash_all}
use Rattle.app_recording.proofs.lent.hash.Goals as goal

pub loop-x-init : goal.loop-x-init
loop-x-init g c = hash_none g.T.Hashed.hashed _

pub loop-x-preserved : goal.loop-x-preserved
loop-x-preserved g c = let l = c.loop-x in
    hash_more g.T.Hashed.hashed _ l.h l.x-index c.x-item.result _ l.invariant (omega arith) (c.hashed-h.ensures ∙ ap (g.T.Hashed.hashed l.h) c.x-item.is)

pub returns : goal.returns
returns g c = let l = c.loop-x in hash_all g.T.Hashed.hashed _ l.h l.x-index l.invariant (omega arith)
