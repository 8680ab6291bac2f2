-- 01's case of this layer, by computation: the line of 001, 4.2.4.3.1.
-- (01 is this project's scope document, 02 its change requests, 001 is MS-RDPRFX: README, "What 01 is".)
use Rattle.std.specs.Prelude.{refl}
use Rattle.whole.specs.Tab.{table}
use Rattle.wave_back.specs.Line.{even_at, odd_at, line_at}
use Rattle.wave_back.specs.Cases.{Worked}

pub worked : Worked
unfolding table line_at even_at odd_at
worked = record { along = refl; down = refl }
