-- `line::line` meets its contract. Invariant: the pairs below j are done, and x is the next even place.
use mathlib.Core.Path.{◌≡◌}
use lib.ListN.{length}
use Rattle.whole.specs.Tab.{at}
use Rattle.wave_back.specs.Line.{row_avg, even_at, odd_at}
use Rattle.wave_back.specs.laws.Line.{Pairs}
use Rattle.wave_back.proofs.line.line.Given as goal

abbrev pub invariant-loop-j : goal.invariant-loop-j
invariant-loop-j l =
    (l.x ≡ even_at (at l.lo) (at l.hi) l.j)
    × Pairs (even_at (at l.lo) (at l.hi)) (odd_at row_avg (length l.lo) (at l.hi) (even_at (at l.lo) (at l.hi))) l.j l.out
