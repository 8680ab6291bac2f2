-- Each return is one case of `after_rows`.
use mathlib.Core.Path.{ap, sym}
use Rattle.app_compare.specs.Files.{after_rows}
use Rattle.app_compare.proofs.files.verdict_of.Goals as goal

pub returns-then-good : goal.returns-then-good
unfolding after_rows
returns-then-good c = ap after_rows (sym c.if-good.true)

pub returns : goal.returns
unfolding after_rows
returns c = ap after_rows (sym c.if-good.false)
