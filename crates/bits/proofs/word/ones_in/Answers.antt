-- `bits::word::ones_in` meets its contract: a zero ends the ones (`in_ones`), or the word does (`in_none`). Assumes nothing.
use native.Mathlib.Omega.{arith}
use Rattle.bits.specs.laws.Word.{in_ones, in_none}
use Rattle.bits.proofs.word.ones_in.Goals as goal

pub returns-then-m-at : goal.returns-then-m-at
returns-then-m-at c =
    in_ones c.args.w c.args.at c.requires _ c.ones_at-m.ensures c.if-m-at.true

pub returns : goal.returns
returns c =
    in_none c.args.w c.args.at c.requires _ c.ones_at-m.ensures (omega arith)
