-- The next byte of a head, or of a block.
use borrow.Author.Tests.{eq-eqb, ne_eqb}
use Rattle.whole.specs.laws.Row.{case_yes, case_no}
use Rattle.app_stream.specs.Skip.{byte_over}
use Rattle.app_stream.proofs.skip.byte_over.Goals as goal

pub returns-then-s-eq0 : goal.returns-then-s-eq0
unfolding byte_over
returns-then-s-eq0 c = case_yes _ _ _ _ (eq-eqb _ 0 c.if-s-eq0.true) (rw (c.head_skip.ensures, c.with_byte.ensures))

pub returns : goal.returns
unfolding byte_over
returns c = case_no _ _ _ _ (ne_eqb _ 0 c.if-s-eq0.false) c.bytes_left.ensures
