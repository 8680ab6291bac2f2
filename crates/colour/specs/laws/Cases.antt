-- 01's cases of the colour, in one statement: white, black and red, forth and back.
-- (01 is this project's scope document, 02 its change requests, 001 is MS-RDPRFX: README, "What 01 is".)
use Rattle.std.specs.Prelude.{refl}
use Rattle.colour.specs.Colour.{luma_z, cb_z, cr_z, clamp_byte, red_of, green_of, blue_of}
use Rattle.colour.specs.Cases.{Cases}

pub cases : Cases
unfolding luma_z cb_z cr_z clamp_byte red_of green_of blue_of
cases = record {
  white = record { luma = refl; blueness = refl; redness = refl };
  white_back = record { red = refl; green = refl; blue = refl };
  black = record { luma = refl; blueness = refl; redness = refl };
  black_back = record { red = refl; green = refl; blue = refl };
  red = record { luma = refl; blueness = refl; redness = refl };
  red_back = record { red = refl; green = refl; blue = refl };
}
