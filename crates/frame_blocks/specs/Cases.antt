-- Document 01, "Cases on both sides": "tileset 5051 .. RLGR3; .. 4451 .. RLGR1", and "quantiser 5 and 16 never pass".
-- (01 is this project's scope document, 02 its change requests, 001 is MS-RDPRFX: README, "What 01 is".)
use Rattle.std.specs.Prelude.{◌≡◌, true, false}
use Rattle.frame_layout.specs.Bytes.{props_of}
use Rattle.frame_layout.specs.Reader.{props_good}

-- a tileset's properties: 5051 is RLGR3 and not RLGR1, 4451 is RLGR1 and not RLGR3; and as they are written
pub record PropsCases : Type 0 where
  pub three : props_good 4 0x5051 ≡ true
  pub three_not_one : props_good 1 0x5051 ≡ false
  pub one : props_good 1 0x4451 ≡ true
  pub one_not_three : props_good 4 0x4451 ≡ false
  pub three_written : props_of 4 ≡ 0x5051
  pub one_written : props_of 1 ≡ 0x4451
