-- The counts of the first y rows are known (`rows_more`); a row that comes short is none of a file that has all (`rows_short`).
use Rattle.app_compare.specs.laws.Files.{rows_start, rows_more, rows_short, rows_all}
use Rattle.std.proofs.Common.{arith}
use Rattle.app_compare.proofs.files.count_through.Goals as goal

pub loop-y-init : goal.loop-y-init
loop-y-init c = rows_start _ _ _ _

pub returns-then-not-count_both : goal.returns-then-not-count_both
returns-then-not-count_both c =
    rows_short _ _ _ _ c.loop-y.y _ _ _ _ _ c.count_both.ensures (c.if-not-count_both.true) (omega arith)

pub loop-y-preserved : goal.loop-y-preserved
loop-y-preserved c =
    rows_more _ _ _ _ _ _ _ _ c.loop-y.invariant c.count_both.ensures

pub returns : goal.returns
returns c = rows_all _ _ _ _ c.loop-y.y _ _ (omega arith) c.loop-y.invariant
