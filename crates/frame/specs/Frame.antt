-- What a frame call answers and leaves, for every record, message, picture and lists: document 01, "Order. Frame call", and the
-- paragraph under the table of numbers.
-- (01 is this project's scope document, 02 its change requests, 001 is MS-RDPRFX: README, "What 01 is".)
use Rattle.std.specs.Prelude.{ℕ, ◌*◌, ◌≡◌, Bool, false, List, ℤ, pos, length, replicate, eqb, leb, Result, Ok, Err}
use Rattle.whole.specs.Row.{◌!◌⨾◌, ◌⇒◌∣◌, ◌⨟◌}
use Rattle.wire.specs.Refusal.{refusal_of}
use Rattle.wire.specs.declared.Refusal.{Refusal}
use Rattle.frame_layout.specs.Reader.{begin_fault, region_fault, frame_fault, frame_tiles, set_place, tile_count, rect_count, set_at}
use Rattle.frame_blocks.specs.Blocks.{rects_of, set_front}
use Rattle.frame_blocks.specs.Judged.{judged}
use Rattle.frame_draw.specs.declared.tiles.Pass.{Pass}
use Rattle.frame_draw.specs.Shown.{tiles_drawn}
use Rattle.frame_draw.specs.Show.{tile_word}
use Rattle.session.specs.Header.{ready}
use Rattle.session.specs.declared.Session.{Session}

-- "a lent work .. list is not 4,096 numbers"
unfoldable pub full : ℕ → ℕ → ℕ → ℕ → Bool
full a b c t = eqb a 4096 ! false ⨾ eqb b 4096 ! false ⨾ eqb c 4096 ! false ⨾ eqb t 4096

-- "Frame call: 12, then 2": of the lent picture's word size (0 is 16 bits, 1 is 32), the record, the picture's length and the lists' lengths; "a
-- picture of the other word size is refused with 2" (02, request Thirteen)
unfoldable pub call_fault : ℕ → Session → ℕ → ℕ → ℕ → ℕ → ℕ → ℕ
call_fault word s p a b c t =
    ready s ! 12 ⨾
    full a b c t ! 2 ⨾
    eqb word s.glass ! 2 ⨾
    leb (s.height * s.width) p ! 2 ⨾
    0

-- the same of a picture and of lists
abbrev pub early : ℕ → Session → List ℕ → List ℤ → List ℤ → List ℤ → List ℤ → ℕ
early word s pic y cb cr tmp = call_fault word s (length pic) (length y) (length cb) (length cr) (length tmp)

-- the message's first fault before the tiles
unfoldable pub front_fault : ℕ → List ℕ → ℕ
front_fault et m = begin_fault m 0 ⨟ region_fault m 14 ⨟ set_front et m (set_place m)

-- the picture of a glass with a frame drawn: its listed tiles, in message order
unfoldable pub framed : ℕ → ℕ → ℕ → ℕ → List ℕ → List ℕ → List ℕ
framed glass et w h m pic = tiles_drawn (rects_of m 14) (rect_count m 14) (tile_word glass et (set_at m (set_place m))) w h (frame_tiles m) pic

-- "12, then 2, then the blocks in wire order"; f is the number before the message
unfoldable pub frame_number : ℕ → Session → List ℕ → ℕ
frame_number f s m = f ⨟ frame_fault judged s.width s.height s.mode m

-- "A refused header or frame changes neither record nor picture."
unfoldable pub frame_picture : ℕ → Session → List ℕ → List ℕ → List ℕ
frame_picture n s m pic = eqb n 0 ! pic ⨾ framed s.glass s.mode s.width s.height m pic

-- "Work lists of a frame call are untouched on 12 and 2; after every other frame answer they hold only zeros."
unfoldable pub frame_list : ℕ → List ℤ → List ℤ
frame_list f xs = eqb f 0 ! xs ⨾ replicate 4096 (pos 0)

-- four lists of zeros
pub record Cleared (y cb cr tmp : List ℤ) : Type 0 where
  pub y_is : y ≡ replicate 4096 (pos 0)
  pub cb_is : cb ≡ replicate 4096 (pos 0)
  pub cr_is : cr ≡ replicate 4096 (pos 0)
  pub tmp_is : tmp ≡ replicate 4096 (pos 0)

-- the numbers of the draw pass over a message without a fault: the session's mode and size, and where the tileset stands
abbrev pub pass_of : Session → List ℕ → Pass
pass_of s m = record { mode = s.mode; w = s.width; h = s.height; sp = set_place m }

-- what is judged before the picture is touched, and what it leaves of the lists, for a picture of p words: the number of 12, then 2, then the
-- message's first fault; on a refusal the lists are as they stay
pub record FrameJudged (word : ℕ) (s : Session) (p : ℕ) (m : List ℕ) (y cb cr tmp y' cb' cr' tmp' : List ℤ) (r : ℕ) : Type 0 where
  pub number : r ≡ frame_number (call_fault word s p (length y) (length cb) (length cr) (length tmp)) s m
  pub y_left : (r ≡ 0 → ⊥) → y' ≡ frame_list (call_fault word s p (length y) (length cb) (length cr) (length tmp)) y
  pub cb_left : (r ≡ 0 → ⊥) → cb' ≡ frame_list (call_fault word s p (length y) (length cb) (length cr) (length tmp)) cb
  pub cr_left : (r ≡ 0 → ⊥) → cr' ≡ frame_list (call_fault word s p (length y) (length cb) (length cr) (length tmp)) cr
  pub tmp_left : (r ≡ 0 → ⊥) → tmp' ≡ frame_list (call_fault word s p (length y) (length cb) (length cr) (length tmp)) tmp

-- ---- the answer: 01's number, and "A done frame reports numTiles, a refused one 0."

-- the answer, of the number and the message
unfoldable pub frame_reading : ℕ → List ℕ → Result ℕ Refusal
frame_reading n m = eqb n 0 ⇒ Ok (tile_count m (set_place m)) ∣ Err (refusal_of n)

-- the whole promise, over a picture of a word size: the answer and each lent list at exit, each an equation in what came in
pub record FrameRead (word : ℕ) (s : Session) (m pic : List ℕ) (y cb cr tmp : List ℤ) (pic' : List ℕ) (y' cb' cr' tmp' : List ℤ) (r : Result ℕ Refusal) : Type 0
  where
    pub answer : r ≡ frame_reading (frame_number (early word s pic y cb cr tmp) s m) m
    pub picture : pic' ≡ frame_picture (frame_number (early word s pic y cb cr tmp) s m) s m pic
    pub y_list : y' ≡ frame_list (early word s pic y cb cr tmp) y
    pub cb_list : cb' ≡ frame_list (early word s pic y cb cr tmp) cb
    pub cr_list : cr' ≡ frame_list (early word s pic y cb cr tmp) cr
    pub tmp_list : tmp' ≡ frame_list (early word s pic y cb cr tmp) tmp
