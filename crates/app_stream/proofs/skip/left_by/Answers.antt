-- A head that waits whole is refused, else the collector is fresh.
use borrow.Author.Tests.{eq-eqb, ne_eqb}
use Rattle.whole.specs.laws.Row.{case_yes, case_no}
use Rattle.app_stream.specs.Skip.{left_by}
use Rattle.app_stream.proofs.skip.left_by.Goals as goal

pub returns-then-s-eq6 : goal.returns-then-s-eq6
unfolding left_by
returns-then-s-eq6 c = case_yes _ _ _ _ (eq-eqb _ 6 c.if-s-eq6.true) (rw c.own_fault.ensures)

pub returns : goal.returns
unfolding left_by
returns c = case_no _ _ _ _ (ne_eqb _ 6 c.if-s-eq6.false) c.reset.ensures
