-- The zeros, the sign and the GR number each end in the word (`num_within`), and the sign is below 2 (`num_there`).
use mathlib.Core.Path.{sym, ◌∙◌}
use native.Mathlib.Omega.{arith}
use Rattle.bits.specs.Bits.{num_bits}
use Rattle.bits.specs.laws.Here.{num_there}
use Rattle.bits.specs.laws.Word.{num_within}
use Rattle.code.proofs.word.run_value_in.Goals as goal

pub number_in-requires-2 : goal.number_in-requires-2
number_in-requires-2 c =
    (num_within _ _ _ _ _ c.requires.0 (sym c.number_in.ensures ∙ c.in_ok-z.ensures.ok_part), omega arith)

pub golomb_in-requires : goal.golomb_in-requires
golomb_in-requires c =
    let a = num_within _ _ _ _ _ c.requires.0 (sym c.number_in.ensures ∙ c.in_ok-z.ensures.ok_part) in
    (num_within _ _ _ _ _ a (sym c.number_in-2.ensures ∙ c.in_ok-sign.ensures.ok_part), omega (arith, c.requires.2))

pub judge_run-requires : goal.judge_run-requires
judge_run-requires c =
    (c.requires.1, c.requires.2, (num_there 1 _ (num_bits 57 c.args.w) _ _ (sym c.number_in-2.ensures ∙ c.in_ok-sign.ensures.ok_part)).0)
