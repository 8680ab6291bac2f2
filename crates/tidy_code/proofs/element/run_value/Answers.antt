-- The sign is one bit, which is below 2 (`num_there`).
use mathlib.Core.Path.{sym, ◌∙◌}
use Rattle.bits.specs.Bits.{bits_of}
use Rattle.bits.specs.laws.Here.{num_there}
use Rattle.tidy_code.proofs.element.run_value.Goals as goal

pub judge_run-requires : goal.judge_run-requires
judge_run-requires c =
    (c.requires.1, c.requires.2, (num_there 1 _ (bits_of c.args.s.now) _ _ (sym c.number-2.ensures ∙ c.in_ok-sign.ensures.ok_part)).0)
