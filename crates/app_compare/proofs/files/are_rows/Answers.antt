-- Each return is one row of `rows_whole`.
use Rattle.whole.specs.laws.Row.{rows}
use Rattle.app_compare.specs.Files.{rows_whole}
use Rattle.app_compare.proofs.files.are_rows.Goals as goal

pub returns-then-a-size : goal.returns-then-a-size
unfolding rows_whole
returns-then-a-size c = search rows

pub returns : goal.returns
unfolding rows_whole
returns c = search rows
