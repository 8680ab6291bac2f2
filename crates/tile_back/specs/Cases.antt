-- 01's (p) cases of the numbers of a tile, under one statement.
-- (01 is this project's scope document, 02 its change requests, 001 is MS-RDPRFX: README, "What 01 is".)
use Rattle.bands.specs.Cases.{BandCases}
use Rattle.wave_back.specs.Cases.{Worked}
use Rattle.colour.specs.Cases as C
use Rattle.std.specs.Prelude.{pos}

pub record Cases : Type 0 where
  -- "Bytes 66 66 77 88 98: 6 6 6 6 7 7 8 8 8 9." and "q = 6: 15 to 0, 16 to 1, -16 to 0, -17 to -1."
  pub bands : BandCases
  -- "L = -32 0 -32 -480 -384 -384 -608 -736, H = 0 0 -64 -64 32 0 -32 -64 gives .."
  pub line : Worked
  -- "White 4064 0 0 and back 255; black -4096 0 0; red -1657 -1379 4078 and back 254 0 0."
  -- (document 02, request Four: "the red case becomes 255 0 0"; that is what is proved)
  pub colours : C.Cases
  -- .. of which the first, spelled out here too
  pub white : C.Forth 255 255 255 (pos 4064) (pos 0) (pos 0)
