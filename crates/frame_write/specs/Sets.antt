-- The frame writer over luma's and chroma's quantisers: what it writes, what it refuses, what it answers and leaves. 02, request Five: "Where chroma
-- differs, the frame writer emits two quantiser sets; its promise is then read over both." Where they are equal it is `Encode` and `FrameWrite` (laws/OneSet).
-- (01 is this project's scope document, 02 its change requests, 001 is MS-RDPRFX: README, "What 01 is".)
use Rattle.std.specs.Prelude.{ℕ, zero, suc, ◌+◌, ◌*◌, ◌/◌, ◌%◌, ◌≤◌, ◌≡◌, Bool, false, List, leb, eqb, ℤ, length, Result}
use Rattle.whole.specs.Row.{◌!◌⨾◌, ◌⨟◌}
use Rattle.wire.specs.Mode.{is_mode}
use Rattle.wire.specs.Wrote.{Wrote}
use Rattle.wire.specs.declared.Refusal.{Refusal}
use Rattle.session.specs.Header.{size_good}
use Rattle.bands.specs.Bands.{is_good, QuantGood}
use Rattle.quants.specs.Quants.{quant_for, sets_of, chroma_index}
use Rattle.quants.specs.declared.Quants.{Quants}
use Rattle.frame_layout.specs.Bytes.{Tile, frame_of}
use Rattle.frame_pieces.specs.Parts.{tile_with, cols_of, tiles_no, pixels_good}
use Rattle.frame_write.specs.Encode.{list_of, tile_part, part_refusal}
use Rattle.frame_write.specs.FrameWrite.{work_left}

-- list, bytes and refusal of component c of tile k, by its own quantisers
abbrev pub list_over : List ℕ → ℕ → ℕ → Quants → ℕ → ℕ → List ℤ
list_over p w h q k c = list_of p w h (quant_for q c).v k c

abbrev pub part_over : List ℕ → ℕ → ℕ → ℕ → Quants → ℕ → ℕ → List ℕ
part_over p w h mode q k c = tile_part p w h mode (quant_for q c).v k c

abbrev pub stop_over : List ℕ → ℕ → ℕ → ℕ → Quants → ℕ → ℕ → ℕ
stop_over p w h mode q k c = part_refusal mode (quant_for q c).v (list_over p w h q k c)

-- Y by the first set, Cb and Cr by chroma's
unfoldable pub tile_over : List ℕ → ℕ → ℕ → ℕ → Quants → ℕ → Tile
tile_over p w h mode q k =
    tile_with (chroma_index q) (k % cols_of w) (k / cols_of w) (part_over p w h mode q k 0) (part_over p w h mode q k 1) (part_over p w h mode q k 2)

unfoldable pub frame_over : ℕ → ℕ → ℕ → ℕ → Quants → List ℕ → List ℕ
frame_over idx w h mode q p = frame_of idx w h mode (sets_of q) (tiles_no w h) (tile_over p w h mode q)

unfoldable pub tile_refusal_over : List ℕ → ℕ → ℕ → ℕ → Quants → ℕ → ℕ
tile_refusal_over p w h mode q k =
    stop_over p w h mode q k 0 ⨟
    (stop_over p w h mode q k 1 ⨟
    stop_over p w h mode q k 2)

-- the first of n tiles from the i-th on
unfoldable pub refusals_over : List ℕ → ℕ → ℕ → ℕ → Quants → ℕ → ℕ → ℕ
refusals_over p w h mode q zero i = 0
refusals_over p w h mode q (suc n) i = tile_refusal_over p w h mode q i ⨟ refusals_over p w h mode q n (i + 1)

-- not 7: luma's quantisers, then chroma's
unfoldable pub good_sets : Quants → Bool
good_sets q = is_good q.luma.v ! false ⨾ is_good q.chroma.v

unfoldable pub arg_fault_over : ℕ → ℕ → ℕ → Quants → ℕ → ℕ → ℕ → ℕ
arg_fault_over w h mode q pixels list scratch =
    size_good w h ! 5 ⨾
    is_mode mode ! 5 ⨾
    good_sets q ! 7 ⨾
    pixels_good w h pixels ! 2 ⨾
    eqb list 4096 ! 2 ⨾
    eqb scratch 4096 ! 2 ⨾
    0

unfoldable pub send_fault_over : ℕ → ℕ → ℕ → ℕ → Quants → List ℕ → ℕ → ℕ
send_fault_over index w h mode q p room =
    refusals_over p w h mode q (tiles_no w h) 0 ⨟
    (leb (length (frame_over index w h mode q p)) room ! 13 ⨾ 0)

-- what the call says and leaves; xs' is a list at exit
pub record FrameWrittenOver (w h mode : ℕ) (q : Quants) (index : ℕ) (p : List ℕ) (list list' scratch scratch' : List ℤ)
    (out out' : List ℕ) (r : Result ℕ Refusal) : Type 0 where
  pub wrote :
      Wrote (arg_fault_over w h mode q (length p) (length list) (length scratch) ⨟ send_fault_over index w h mode q p (length out))
      (frame_over index w h mode q p) out out' r
  pub first : list' ≡ work_left (arg_fault_over w h mode q (length p) (length list) (length scratch)) list
  pub second : scratch' ≡ work_left (arg_fault_over w h mode q (length p) (length list) (length scratch)) scratch

-- a picture that the writer takes: size, pixels and quantisers are in order, ten a set
pub record PictureOver (p : List ℕ) (w h : ℕ) (q : Quants) : Type 0 where
  pub wide : 1 ≤ w
  pub wider : w ≤ 4096
  pub high : 1 ≤ h
  pub higher : h ≤ 2048
  pub pixels : length p ≡ 3 * (w * h)
  pub luma : QuantGood q.luma.v
  pub chroma : QuantGood q.chroma.v
