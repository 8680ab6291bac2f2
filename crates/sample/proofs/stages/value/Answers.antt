-- Two bytes are within 255, and their number is `number_of`.
use Rattle.whole.specs.laws.Near.{back_ok, back_near}
use mathlib.Core.Path.{◌∙◌}
use mir.Syntax.{w32}
use native.Mathlib.Omega.{arith}
use Rattle.sample.proofs.Bytes.{byte_near, number-of}
use Rattle.sample.proofs.stages.value.Goals as goal

pub number-requires : goal.number-requires
number-requires c =
    (back_near w32 (byte_near _ (omega arith) c.byte.ensures) tt, back_near w32 (byte_near _ (omega arith) c.byte-2.ensures) tt)

pub returns : goal.returns
returns c =
    back_ok w32 c.number.result c.number.type_inv ∙ c.number.ensures ∙ number-of (back_ok w32 c.byte.result c.byte.type_inv ∙ c.byte.ensures)
    (back_ok w32 c.byte-2.result c.byte-2.type_inv ∙ c.byte-2.ensures)
