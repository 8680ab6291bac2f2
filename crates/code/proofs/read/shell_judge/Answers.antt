-- `shell_judge` meets its contract: each return is read off the row of `shell_fault`, the mode by what `is_mode` says.
use mathlib.Core.Path.{refl, sym, ◌∙◌}
use Rattle.whole.specs.laws.Row.{rows, passes, fails}
use Rattle.code.specs.Read.{shell_fault}
use Rattle.code.proofs.read.shell_judge.Goals as goal

pub returns-then-not-is_mode : goal.returns-then-not-is_mode
unfolding shell_fault
returns-then-not-is_mode c = fails _ _ _ _ (sym c.is_mode.ensures ∙ c.if-not-is_mode.true) refl

pub returns-then-n-ne4096 : goal.returns-then-n-ne4096
unfolding shell_fault
returns-then-n-ne4096 c = passes _ _ _ _ (sym c.is_mode.ensures ∙ c.if-not-is_mode.false) (search rows)

pub returns-then-len-gt65535 : goal.returns-then-len-gt65535
unfolding shell_fault
returns-then-len-gt65535 c =
    passes _ _ _ _ (sym c.is_mode.ensures ∙ c.if-not-is_mode.false) (search rows)

pub returns : goal.returns
unfolding shell_fault
returns c =
    passes _ _ _ _ (sym c.is_mode.ensures ∙ c.if-not-is_mode.false) (search rows)
