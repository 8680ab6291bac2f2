-- 01's (p) cases of the numbers of a tile, under one statement.
-- (01 is this project's scope document, 02 its change requests, 001 is MS-RDPRFX: README, "What 01 is".)
use Rattle.bands.specs.laws.Cases.{band_cases}
use Rattle.wave_back.specs.laws.Cases.{worked}
use Rattle.colour.specs.laws.Cases as CLaws
use Rattle.tile_back.specs.Cases.{Cases}

pub cases : Cases
cases = record { bands = band_cases; line = worked; colours = CLaws.cases; white = (CLaws.cases).white }
