-- Both rows are what stands at their places (`both_known`).
use Rattle.app_compare.specs.laws.Files.{both_known}
use Rattle.app_compare.proofs.files.count_both.Goals as goal

pub returns : goal.returns
returns c =
    both_known _ _ _ _ _ _ _ _ _ _ _ c.read_row-n.ensures c.read_row-m.ensures
    c.first-of_a.ensures c.first-of_b.ensures c.count_row.ensures c.are_rows.ensures
