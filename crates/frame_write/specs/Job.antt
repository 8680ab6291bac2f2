-- The definitions of `Sets` for a job, which is what the writer's passes hand on; what holds of a job that was judged.
-- (01 is this project's scope document, 02 its change requests, 001 is MS-RDPRFX: README, "What 01 is".)
use Rattle.std.specs.Prelude.{ℕ, ◌<◌, ◌≤◌, ◌≡◌, List, leb, ℤ, length, get_or}
use Rattle.whole.specs.Row.{◌!◌⨾◌, ◌⨟◌}
use Rattle.frame_layout.specs.Bytes.{Tile, frame_of}
use Rattle.frame_pieces.specs.Parts.{tiles_no}
use Rattle.quants.specs.Quants.{sets_of}
use Rattle.quants.specs.declared.Quants.{Quants}
use Rattle.frame_write.specs.Sets.{list_over, part_over, stop_over, tile_over, tile_refusal_over, PictureOver}
use Rattle.frame_write.specs.Picked.{stops_of}
use Rattle.frame_write.specs.declared.size.Job.{Job}

-- how many tiles; list and bytes of component c of tile k; the tile
abbrev pub job_tiles : Job → ℕ
job_tiles j = tiles_no j.width j.height

abbrev pub list_in : Job → List ℕ → ℕ → ℕ → List ℤ
list_in j p k c = list_over p j.width j.height j.quants k c

abbrev pub part_in : Job → List ℕ → ℕ → ℕ → List ℕ
part_in j p k c = part_over p j.width j.height j.mode j.quants k c

abbrev pub tile_in : Job → List ℕ → ℕ → Tile
tile_in j p = tile_over p j.width j.height j.mode j.quants

-- the refusals of component c of tile k, and of the tile
abbrev pub part_stop : Job → List ℕ → ℕ → ℕ → ℕ
part_stop j p k c = stop_over p j.width j.height j.mode j.quants k c

abbrev pub tile_stop : Job → List ℕ → ℕ → ℕ
tile_stop j p k = tile_refusal_over p j.width j.height j.mode j.quants k

-- the number of the i-th tile that is sent: the one that the list has there; past its end i itself, so that with no list at all every tile is sent,
-- "row by row"
unfoldable pub sent_at : List ℕ → ℕ → ℕ
sent_at ks i = get_or ks i i

-- the i-th tile that is sent, its refusal, the refusals of n of them, the frame of them, and what is refused of it
abbrev pub tile_sent : Job → List ℕ → List ℕ → ℕ → Tile
tile_sent j p ks i = tile_in j p (sent_at ks i)

abbrev pub stop_sent : Job → List ℕ → List ℕ → ℕ → ℕ
stop_sent j p ks i = tile_stop j p (sent_at ks i)

abbrev pub stops_sent : Job → List ℕ → List ℕ → ℕ → ℕ
stops_sent j p ks n = stops_of (stop_sent j p ks) n 0

abbrev pub frame_sent : Job → List ℕ → List ℕ → ℕ → List ℕ
frame_sent j p ks n = frame_of j.index j.width j.height j.mode (sets_of j.quants) n (tile_sent j p ks)

abbrev pub fault_sent : Job → List ℕ → List ℕ → ℕ → ℕ → ℕ
fault_sent j p ks n room = stops_sent j p ks n ⨟ (leb (length (frame_sent j p ks n)) room ! 13 ⨾ 0)

-- what holds once the arguments have been judged: a picture that the writer takes, a mode of four bits, two work lists (their lengths) of 4,096
pub record ArgsGood (w h mode : ℕ) (q : Quants) (p : List ℕ) (list scratch : ℕ) : Type 0 where
  pub picture : PictureOver p w h q
  pub small : mode < 16
  pub first : list ≡ 4096
  pub second : scratch ≡ 4096

abbrev pub JobReady : Job → List ℕ → List ℤ → List ℤ → Type 0
JobReady j p list scratch = ArgsGood j.width j.height j.mode j.quants p (length list) (length scratch)

-- and once the list has been: n tiles of the picture's
pub record TilesThere (w h : ℕ) (ks : List ℕ) (n : ℕ) : Type 0 where
  pub few : n ≤ 2048
  pub there : (i : ℕ) → i < n → sent_at ks i < tiles_no w h

abbrev pub JobSends : Job → List ℕ → ℕ → Type 0
JobSends j ks n = TilesThere j.width j.height ks n
