-- The counts of the first y rows are known.
use Rattle.app_compare.specs.laws.Files.{RowsKnown}
use Rattle.app_compare.specs.Outside.{descriptor}
use Rattle.app_compare.proofs.files.count_through.Given as goal

abbrev pub invariant-loop-y : goal.invariant-loop-y
invariant-loop-y l = RowsKnown (descriptor l.a) (descriptor l.b) l.width l.y l.initial.counts l.counts
