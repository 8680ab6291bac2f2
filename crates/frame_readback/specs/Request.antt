-- 02's request Five, the frame writer over two quantiser sets: what may be relied on, over the promises of the calls. `two_sets`
-- (laws/Request) proves all of it; calls with sets that differ stand in laws/TwoSets.
-- "Where chroma differs, the frame writer emits two quantiser sets; its promise is then read over both."
-- (01 is this project's scope document, 02 its change requests, 001 is MS-RDPRFX: README, "What 01 is".)
use Rattle.std.specs.Prelude.{ℕ, ◌*◌, ◌/◌, ◌%◌, ◌≤◌, ◌≡◌, true, false, List, [], ◌∷◌, ◌++◌, ℤ, pos, length, get_or, take, drop, replicate, Result, Ok}
use Rattle.whole.specs.Among.{Among, Other}
use Rattle.wire.specs.Refusal.{number_of, count_of}
use Rattle.wire.specs.declared.Refusal.{Refusal}
use Rattle.session.specs.declared.Session.{Session}
use Rattle.session.specs.Header.{record_of, kept_glass, header_reading}
use Rattle.headers.specs.Headers.{HeadersWritten}
use Rattle.quants.specs.Quants.{quant_bytes, same}
use Rattle.quants.specs.declared.Quants.{Quants}
use Rattle.frame.specs.Frame.{FrameRead}
use Rattle.frame_layout.specs.Bytes.{Tile, frame_of}
use Rattle.frame_pieces.specs.Parts.{cols_of, tiles_no}
use Rattle.frame_write.specs.Encode.{tile_part, picture_frame}
use Rattle.frame_write.specs.Sets.{frame_over, FrameWrittenOver}
use Rattle.frame_readback.specs.Own.{ShownOver}

-- the four header blocks are taken, one after the other, from any record
pub record HeadersTaken (s : Session) (w h et : ℕ) (m : List ℕ) : Type 0 where
  pub one : header_reading s (take 12 m) ≡ Ok (record_of (kept_glass s.glass) 1 0 0 0)
  pub two : header_reading (record_of (kept_glass s.glass) 1 0 0 0) (take 10 (drop 12 m)) ≡ Ok (record_of (kept_glass s.glass) 2 0 0 0)
  pub three : header_reading (record_of (kept_glass s.glass) 2 0 0 0) (take 12 (drop 22 m)) ≡ Ok (record_of (kept_glass s.glass) 3 w h 0)
  pub four : header_reading (record_of (kept_glass s.glass) 3 w h 0) (take 13 (drop 34 m)) ≡ Ok (record_of (kept_glass s.glass) 4 w h et)

-- a call of the writer: what was given, what was answered, what lent memory holds afterwards
pub record WriteFrameSets : Type 0 where
  pub width : ℕ
  pub height : ℕ
  pub mode : ℕ
  pub quants : Quants
  pub luma : length quants.luma.v ≡ 10
  pub chroma : length quants.chroma.v ≡ 10
  pub index : ℕ
  pub pixels : List ℕ
  pub list : List ℤ
  pub scratch : List ℤ
  pub out : List ℕ
  pub list' : List ℤ
  pub scratch' : List ℤ
  pub out' : List ℕ
  pub answer : Result ℕ Refusal
  pub promise : FrameWrittenOver width height mode quants index pixels list list' scratch scratch' out out' answer

-- a tile of two sets: Y by the first, "indices" 0, Cb and Cr by the second, 1
abbrev pub tile_of_two : List ℕ → ℕ → ℕ → ℕ → List ℕ → List ℕ → ℕ → Tile
tile_of_two p w h mode luma chroma k = record {
  qy = 0;
  qcb = 1;
  qcr = 1;
  x = k % cols_of w;
  y = k / cols_of w;
  ys = tile_part p w h mode luma k 0;
  cbs = tile_part p w h mode chroma k 1;
  crs = tile_part p w h mode chroma k 2;
}

pub record TwoSets : Type 0 where
  -- equal sets: every byte is the one_set writer's
  pub one_set :
      (index w h mode : ℕ) (q : Quants) (p : List ℕ) → same q ≡ true → frame_over index w h mode q p ≡ picture_frame index w h mode q.luma.v p
  -- "Where chroma differs, the frame writer emits two quantiser sets": the frame is 01's, with luma's ten values and then chroma's, and tiles of two sets
  pub two_written :
      (index w h mode : ℕ) (q : Quants) (p : List ℕ) → same q ≡ false →
      frame_over index w h mode q p ≡ frame_of index w h mode (q.luma.v ++ q.chroma.v) (tiles_no w h) (tile_of_two p w h mode q.luma.v q.chroma.v)
  -- in its bytes: the 52nd says 2, and from the 60th on stand luma's five, then chroma's
  pub two_said :
      (index w h mode : ℕ) (q : Quants) (p : List ℕ) → length q.luma.v ≡ 10 → length q.chroma.v ≡ 10 → same q ≡ false →
      get_or (frame_over index w h mode q p) 51 0 ≡ 2
  pub two-sets :
      (index w h mode : ℕ) (q : Quants) (p : List ℕ) → length q.luma.v ≡ 10 → length q.chroma.v ≡ 10 → same q ≡ false →
      take 10 (drop 59 (frame_over index w h mode q p)) ≡ quant_bytes q.luma.v ++ quant_bytes q.chroma.v
  -- and a call that is done has written just that
  pub done_bytes :
      (c : WriteFrameSets) → number_of c.answer ≡ 0 →
      take (count_of c.answer) c.out' ≡ frame_over c.index c.width c.height c.mode c.quants c.pixels
  -- demand 2, the other way, over both: our headers are taken, and our frame is accepted and shows the decoding of the picture's rounded coefficients, each
  -- component by its own quantisers
  pub our_frames :
      (glass : ℕ) (s₀ : Session) (ho ho' : List ℕ) (hr : Result ℕ Refusal) (c : WriteFrameSets)
      → glass ≤ 1
      → HeadersWritten c.width c.height c.mode ho ho' hr
      → number_of hr ≡ 0
      → number_of c.answer ≡ 0
      → (pic : List ℕ) (y cb cr tmp : List ℤ) (pic' : List ℕ) (y' cb' cr' tmp' : List ℤ) (answer : Result ℕ Refusal)
      → length y ≡ 4096
      → length cb ≡ 4096
      → length cr ≡ 4096
      → length tmp ≡ 4096
      → c.height * c.width ≤ length pic
      → FrameRead glass (record_of glass 4 c.width c.height c.mode) (take (count_of c.answer) c.out') pic y cb cr tmp pic' y' cb' cr'
      tmp' answer
      → HeadersTaken s₀ c.width c.height c.mode (take (count_of hr) ho')
      × ShownOver glass c.pixels c.width c.height c.quants pic pic' answer
  -- one answer and one content of lent memory
  pub one_answer :
      (c : WriteFrameSets) (list' scratch' : List ℤ) (out' : List ℕ) (r : Result ℕ Refusal)
      → FrameWrittenOver c.width c.height c.mode c.quants c.index c.pixels c.list list' c.scratch scratch' c.out out' r
      → (c.answer ≡ r) × (c.list' ≡ list') × (c.scratch' ≡ scratch') × (c.out' ≡ out')
  -- "The frame writer's work lists are untouched on 5, 7 and 2 and hold only zeros after every other answer."
  pub work_untouched : (c : WriteFrameSets) → Among (5 ∷ 7 ∷ 2 ∷ []) (number_of c.answer) → (c.list' ≡ c.list) × (c.scratch' ≡ c.scratch)
  pub work_zeros :
      (c : WriteFrameSets) → Other (5 ∷ 7 ∷ 2 ∷ []) (number_of c.answer) → (c.list' ≡ replicate 4096 (pos 0)) × (c.scratch' ≡ replicate 4096 (pos 0))
