-- The worked line of this layer, by computation.
-- Assumes nothing.
use Rattle.std.specs.Prelude.{refl}
use Rattle.whole.specs.Tab.{table}
use Rattle.wave_forth.specs.Halves.{line_high, line_low}
use Rattle.wave_forth.specs.Cases.{Worked}

pub worked : Worked
unfolding table line_high line_low
worked = record { highs = refl; lows = refl }
