-- `caps::write::put_entries` meets its contract: no entry, one, or one behind the other.
-- Assumes nothing.
use native.Mathlib.Omega.{arith}
use Rattle.caps.specs.laws.Write.{none_put, one_put, two_put}
use Rattle.caps.proofs.write.put_entries.Goals as goal

pub returns-then-s-eq0 : goal.returns-then-s-eq0
returns-then-s-eq0 c = none_put _ _ _ _ c.if-s-eq0.true

pub returns-then-s-eq1 : goal.returns-then-s-eq1
returns-then-s-eq1 c =
    one_put _ _ _ _ c.if-s-eq0.false _ c.put_entry.ensures c.if-s-eq1.true

pub returns : goal.returns
returns c =
    two_put _ _ _ _ c.if-s-eq0.false _ c.put_entry.ensures c.if-s-eq1.false _ c.put_entry-2.ensures (omega arith)
