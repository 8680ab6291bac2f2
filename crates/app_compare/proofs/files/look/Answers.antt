-- A size that 01 refuses is not whole (`look_head`); else the end tells (`look_end`).
use mathlib.Core.Path.{sym, ◌∙◌}
use Rattle.app_compare.specs.laws.Files.{look_head, look_end}
use Rattle.app_compare.proofs.files.look.Goals as goal

pub returns-then-is_size : goal.returns-then-is_size
returns-then-is_size c =
    look_end _ _ _ c.head-p.ensures (sym c.is_size.ensures ∙ c.if-is_size.true) c.with_end.ensures

pub returns : goal.returns
returns c =
    look_head _ _ c.head-p.ensures (sym c.is_size.ensures ∙ c.if-is_size.false)
