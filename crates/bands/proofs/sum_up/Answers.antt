-- `bands::sum_up` meets its contract: LL3, lent as the last 64 places, comes back summed. Assumes nothing.
use native.Mathlib.Omega.{arith}
use Rattle.whole.specs.laws.Part.{part_near, part_length}
use Rattle.bands.specs.laws.Part.{sums_listed}
use Rattle.bands.proofs.sum_up.Goals as goal

pub sum_part-requires : goal.sum_part-requires
sum_part-requires c =
    (part_length c.args.work.now 4032 4096 (omega arith) (omega arith), part_near c.args.work.now 4032 64 c.requires.1)

pub returns : goal.returns
returns c =
    sums_listed c.args.work.now c.sum_part.new.part c.requires.0 c.sum_part.ensures
