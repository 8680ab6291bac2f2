-- `caps::read::read_entries` meets its contract: no entry, one, or one behind the other.
-- Assumes nothing.
use Rattle.caps.specs.laws.Step.{passed_on}
use Rattle.caps.specs.laws.Read.{none_read, first_refused, one_read, second_refused, two_read}
use Rattle.caps.proofs.read.read_entries.Goals as goal

pub returns-then-n-eq0 : goal.returns-then-n-eq0
returns-then-n-eq0 c = none_read _ _ c.if-n-eq0.true

pub returns-in_err-first : goal.returns-in_err-first
returns-in_err-first c = passed_on _ _ _ _ _ c.from_residual.ensures (first_refused _ _ c.if-n-eq0.false _ c.in_err-first.ensures)

pub returns-then-n-eq1 : goal.returns-then-n-eq1
returns-then-n-eq1 c = one_read _ _ c.if-n-eq0.false _ _ c.in_ok-first.ensures c.if-n-eq1.true

pub returns-in_err-second : goal.returns-in_err-second
returns-in_err-second c =
    passed_on _ _ _ _ _ c.from_residual-in_err-second.ensures
    (second_refused _ _ c.if-n-eq0.false _ _ c.in_ok-first.ensures c.if-n-eq1.false _ c.in_err-second.ensures)

pub returns : goal.returns
returns c = two_read _ _ c.if-n-eq0.false _ _ c.in_ok-first.ensures c.if-n-eq1.false _ _ c.in_ok-second.ensures
