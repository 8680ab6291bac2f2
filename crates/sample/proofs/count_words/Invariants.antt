-- As many words are counted as were looked at, at most.
use Rattle.std.proofs.Common.{◌≤◌}
use Rattle.sample.proofs.count_words.Given as goal

abbrev pub invariant-loop-i : goal.invariant-loop-i
invariant-loop-i l = (l.same ≤ l.i) × (l.other ≤ l.i)
