-- The two rows of `next_index`.
use native.Mathlib.Omega.{arith}
use Rattle.whole.specs.laws.Row.{rows}
use Rattle.app_send.specs.Both.{next_index}
use Rattle.app_send.proofs.both.next_index.Goals as goal

pub returns-then-index-eq4294967295 : goal.returns-then-index-eq4294967295
unfolding next_index
returns-then-index-eq4294967295 c = search rows

pub overflow_add-result : goal.overflow_add-result
overflow_add-result c = omega arith

pub returns : goal.returns
unfolding next_index
returns c = search rows
