-- `collect::copy` meets its contract. Invariant: the first i bytes are copied.
use mathlib.Core.Path.{◌≡◌}
use lib.ListN.{drop}
use lib.Seq.{paste}
use Rattle.collect.proofs.copy.Given as goal

abbrev pub invariant-loop-i : goal.invariant-loop-i
invariant-loop-i l = l.store ≡ paste l.initial.store l.at (drop l.from l.bytes) l.i
