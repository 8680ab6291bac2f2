-- A frame as the filter in front of the panel passes it on: byte for byte where the panel accepts it; with its codes tidied and "lengths of tile, tileset
-- and data size filled in again" where it is accepted then; and whatever else it is, as it came, "to be refused by number".
-- What a code means is the sender's, whose number is sd (specs/Sent of the crate tidy_code).
-- (01 is this project's scope document, 02 its change requests, 001 is MS-RDPRFX: README, "What 01 is".)
use Rattle.std.specs.Prelude.{ℕ, zero, suc, ◌+◌, ◌*◌, ◌≡◌, Bool, true, false, List, [], ◌∷◌, ◌++◌, leb, eqb, ℤ, pos, length, take, drop}
use Rattle.std.specs.Prelude.{replicate, Result, Ok, Err}
use Rattle.whole.specs.Row.{◌!◌⨾◌, ◌⇒◌∣◌}
use Rattle.wire.specs.Le.{bytes32, patch}
use Rattle.wire.specs.Refusal.{number_of}
use Rattle.wire.specs.declared.Refusal.{Refusal}
use Rattle.wire.specs.Wrote.{length_said, out_left}
use Rattle.session.specs.Header.{ready}
use Rattle.session.specs.declared.Session.{Session}
use Rattle.frame_layout.specs.Bytes.{Tile, tile_of}
use Rattle.frame_layout.specs.Reader.{size_at, quant_count, tile_count, data_of, tile_at, set_place, end_place, frame_fault}
use Rattle.frame_blocks.specs.Judged.{judged}
use Rattle.tidy_code.specs.Sent.{is_sender, tidy_code}
use Rattle.tidy.specs.declared.frames.Tidied.{Tidied}

-- ---- the frame with its codes tidied

-- a tile with its three codes tidied
unfoldable pub tidy_tile : ℕ → ℕ → Tile → Tile
tidy_tile sd et t = record {
  qy = t.qy;
  qcb = t.qcb;
  qcr = t.qcr;
  x = t.x;
  y = t.y;
  ys = tidy_code sd et t.ys;
  cbs = tidy_code sd et t.cbs;
  crs = tidy_code sd et t.crs;
}

-- n tiles of a tileset's own data, from a place on, each with its lengths filled in again
unfoldable pub tidy_tiles : ℕ → ℕ → List ℕ → ℕ → ℕ → List ℕ
tidy_tiles sd et d zero at = []
tidy_tiles sd et d (suc n) at = tile_of (tidy_tile sd et (tile_at d at)) ++ tidy_tiles sd et d n (at + size_at d at)

-- all tiles of a frame
unfoldable pub tiles_tidied : ℕ → ℕ → List ℕ → List ℕ
tiles_tidied sd et m = tidy_tiles sd et (data_of m (set_place m)) (tile_count m (set_place m)) 0

-- where a frame's tiles begin: behind the tileset's quantiser sets
unfoldable pub tiles_place : List ℕ → ℕ
tiles_place m = set_place m + (22 + 5 * quant_count m (set_place m))

-- what stands before the tiles, with the tileset's two lengths for `size` bytes of tiles
unfoldable pub front_tidied : List ℕ → ℕ → List ℕ
front_tidied m size =
    patch (patch (take (tiles_place m) m) (set_place m + 2) (bytes32 (22 + 5 * quant_count m (set_place m) + size))) (set_place m + 18) (bytes32 size)

-- the whole frame: begin, region and tileset as they came but for these lengths, the tiles, the end as it came
unfoldable pub frame_tidied : ℕ → ℕ → List ℕ → List ℕ
frame_tidied sd et m = front_tidied m (length (tiles_tidied sd et m)) ++ (tiles_tidied sd et m ++ drop (end_place m) m)

-- ---- what is passed on

-- the panel's number of a frame, behind 12 and 2
unfoldable pub fault_for : Session → List ℕ → ℕ
fault_for s m = frame_fault judged s.width s.height s.mode m

-- the same with every code taken for good: what is wrong with its layout, indices and places
unfoldable pub layout_for : Session → List ℕ → ℕ
layout_for s m = frame_fault (λ (et : ℕ) (five code : List ℕ). 0) s.width s.height s.mode m

-- is a frame to be tidied? Its session has its headers, it is not accepted as it stands, only its codes are at fault, and tidied it is accepted
unfoldable pub is_tidied : ℕ → Session → List ℕ → Bool
is_tidied sd s m =
    ready s ! false ⨾
    eqb (fault_for s m) 0 ⇒ false ∣
    eqb (layout_for s m) 0 ! false ⨾
    eqb (fault_for s (frame_tidied sd s.mode m)) 0

unfoldable pub tidy_frame : ℕ → Session → List ℕ → List ℕ
tidy_frame sd s m = is_tidied sd s m ! m ⨾ frame_tidied sd s.mode m

-- are two lists of bytes the same?
unfoldable pub same_bytes : List ℕ → List ℕ → Bool
same_bytes [] [] = true
same_bytes [] (y ∷ ys) = false
same_bytes (x ∷ xs) [] = false
same_bytes (x ∷ xs) (y ∷ ys) = eqb x y ! false ⨾ same_bytes xs ys

-- how many codes are not as they came: "34 codes cut"
unfoldable pub cut_code : ℕ → ℕ → List ℕ → ℕ
cut_code sd et c = same_bytes (tidy_code sd et c) c ! 1 ⨾ 0

unfoldable pub cut_tiles : ℕ → ℕ → List ℕ → ℕ → ℕ → ℕ
cut_tiles sd et d zero at = 0
cut_tiles sd et d (suc n) at =
    cut_code sd et (tile_at d at).ys + (cut_code sd et (tile_at d at).cbs + (cut_code sd et (tile_at d at).crs + cut_tiles sd et d n (at + size_at d at)))

unfoldable pub codes_cut : ℕ → Session → List ℕ → ℕ
codes_cut sd s m = is_tidied sd s m ! 0 ⨾ cut_tiles sd s.mode (data_of m (set_place m)) (tile_count m (set_place m)) 0

-- ---- what the call promises

-- its refusals: a sender that is none of the three is "5 of the frame's call, before 2 and 13"; 2 where the work list is not 4,096 numbers, 13 where the output
-- is shorter than the frame that came
unfoldable pub tidy_fault : ℕ → ℕ → ℕ → ℕ → ℕ
tidy_fault sd list message room = is_sender sd ! 5 ⨾ eqb list 4096 ! 2 ⨾ leb message room ! 13 ⨾ 0

unfoldable pub cut_said : ℕ → ℕ → ℕ
cut_said zero n = n
cut_said (suc f) n = 0

-- length and count of an answer: a refused one has 0 of both
abbrev pub told_of : Result Tidied Refusal → Tidied
told_of (Ok t) = t
told_of (Err refusal) = record { size = 0; cut = 0 }

-- the work list: untouched where the call is refused, else zeros
unfoldable pub list_left : ℕ → List ℤ → List ℤ
list_left zero list = replicate 4096 (pos 0)
list_left (suc f) list = list

pub record FrameTidied (sd : ℕ) (s : Session) (m : List ℕ) (list list' : List ℤ) (out out' : List ℕ) (r : Result Tidied Refusal) : Type 0 where
  pub number : number_of r ≡ tidy_fault sd (length list) (length m) (length out)
  pub size : (told_of r).size ≡ length_said (tidy_fault sd (length list) (length m) (length out)) (tidy_frame sd s m)
  pub cut : (told_of r).cut ≡ cut_said (tidy_fault sd (length list) (length m) (length out)) (codes_cut sd s m)
  pub left : out' ≡ out_left (tidy_fault sd (length list) (length m) (length out)) (tidy_frame sd s m) out
  pub work : list' ≡ list_left (tidy_fault sd (length list) (length m) (length out)) list
