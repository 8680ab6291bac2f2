-- `level` meets its contract: the row pass is what the column pass asks for. Assumes nothing.
use mathlib.Core.Path.{◌∙◌}
use Rattle.plain.proofs.level.Goals as goal

pub columns-requires : goal.columns-requires
columns-requires c =
    let the-rows = c.rows in
    let pre = c.requires in
    (pre.0, the-rows.auto.dst ∙ pre.1, the-rows.ensures)

pub returns : goal.returns
returns c = c.columns.ensures
