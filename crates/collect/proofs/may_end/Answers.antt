-- `collect::may_end` meets its contract: each return is a row of `may_end`.
use Rattle.whole.specs.laws.Row.{rows}
use Rattle.collect.specs.Collect.{may_end}
use Rattle.collect.proofs.may_end.Goals as goal

pub returns-then-held-lt12 : goal.returns-then-held-lt12
unfolding may_end
returns-then-held-lt12 c = search rows

pub returns-then-part-eq-IN_FRAME : goal.returns-then-part-eq-IN_FRAME
unfolding may_end
returns-then-part-eq-IN_FRAME c = search rows

pub returns-then-held-lt12-2 : goal.returns-then-held-lt12-2
unfolding may_end
returns-then-held-lt12-2 c = search rows

pub returns-then-part-eq-AT_END : goal.returns-then-part-eq-AT_END
unfolding may_end
returns-then-part-eq-AT_END c = search rows

pub returns-then-part-lt-TO_HEADER : goal.returns-then-part-lt-TO_HEADER
unfolding may_end
returns-then-part-lt-TO_HEADER c = search rows

pub returns-then-part-gt-TO_FRAME : goal.returns-then-part-gt-TO_FRAME
unfolding may_end
returns-then-part-gt-TO_FRAME c = search rows

pub returns : goal.returns
unfolding may_end
returns c = search rows
