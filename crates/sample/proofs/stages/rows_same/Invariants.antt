-- The loop counts the rows that are passed.
use Rattle.std.proofs.Common.{◌≡◌, ◌≤◌}
use Rattle.sample.specs.Compare.{rows_same}
use Rattle.sample.proofs.stages.rows_same.Given as goal

abbrev pub invariant-loop-i : goal.invariant-loop-i
invariant-loop-i l = (l.same ≤ l.i) × (l.same ≡ rows_same l.rows l.got l.w l.i)
