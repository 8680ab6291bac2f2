-- All that is passed is v (`all_more`); one that is not ends it (`not_all`).
use Rattle.app_recording.specs.laws.Filled.{all_more, same_bits, not_all, all_of}
use Rattle.std.proofs.Common.{arith}
use Rattle.app_recording.proofs.lent.all_are.Goals as goal

pub loop-x-preserved : goal.loop-x-preserved
loop-x-preserved c =
    all_more _ _ c.loop-x.x-index (omega arith) c.loop-x.invariant (same_bits _ c.args.v (record { sfits = c.t9-1.given }) c.if-x-v.false)

pub returns-then-x-v : goal.returns-then-x-v
returns-then-x-v c = not_all _ _ c.loop-x.x-index (omega arith) c.if-x-v.true

pub returns : goal.returns
returns c = all_of _ _ c.loop-x.x-index (omega arith) (omega arith) c.ranges.v c.loop-x.invariant
