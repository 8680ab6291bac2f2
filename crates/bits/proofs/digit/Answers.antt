-- A byte shifted down and its last bit is the bit of the list at that place (`bits_of_at`, `val_odd`).
use mathlib.Core.Path.{sym, ap, ◌∙◌}
use Rattle.bits.specs.Bits.{val}
use Rattle.bits.specs.laws.Bit.{bits_of_at, val_odd}
use Rattle.bits.proofs.digit.Goals as goal

pub returns : goal.returns
returns c = sym (ap val (bits_of_at c.args.s.now c.args.at c.requires) ∙ val_odd _)
