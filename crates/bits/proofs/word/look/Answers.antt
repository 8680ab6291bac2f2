-- `bits::word::look` meets its contract: eight bytes as two fours, the bits before the place shifted out (`look_four`). Assumes nothing.
use native.Mathlib.Omega.{arith}
use Rattle.bits.specs.laws.Word.{look_four}
use Rattle.bits.proofs.word.look.Goals as goal

pub returns : goal.returns
returns c =
    look_four c.args.s.now c.args.at _ (λ i. omega (arith, c.type_inv.s i)) c.requires
    (rw (c.four.ensures.0, c.four-2.ensures.0))
