-- Request Fourteen of 02: "The safety office signs off days." A day is a list of header and frame calls on one record and one picture. Here is how the calls
-- hang together, which of them are refused, what the accepted frames draw one over the other, and what each call was asked; specs/Days says what is so.
-- (01 is this project's scope document, 02 its change requests, 001 is MS-RDPRFX: README, "What 01 is".)
use Rattle.std.specs.Prelude.{ℕ, ◌+◌, ◌*◌, ◌/◌, ◌%◌, ◌≡◌, List, [], ◌∷◌, ◌≢◌, length, ltb, eqb, Result}
use Rattle.wire.specs.Refusal.{number_of}
use Rattle.whole.specs.Row.{◌⇒◌∣◌}
use Rattle.session.specs.declared.Session.{Session}
use Rattle.wire.specs.declared.Refusal.{Refusal}
use Rattle.session.specs.Header.{record_of}
use Rattle.frame_layout.specs.Reader.{frame_tiles, set_place, rect_count, set_at}
use Rattle.frame_blocks.specs.Blocks.{rects_of}
use Rattle.frame_draw.specs.Draw.{in_region}
use Rattle.frame_draw.specs.Shown.{Found, found, none, last_tile}
use Rattle.frame_draw.specs.Show.{tile_word}
use Rattle.frame.specs.Frame.{framed}
use Rattle.calls.specs.Calls.{ReadHeader, session_after, ReadFrame}

-- ---- "Take any list of header and frame calls from a fresh session, with the same picture handed on from call to call, no sharing and no other writer."

-- what goes on from call to call: the record, and a picture of a word size (0 is 16 bits, 1 is 32). Both belong to the calls alone: nobody else writes
-- them, and no call is lent one memory twice
pub record State : Type 0 where
  pub session : Session
  pub word : ℕ
  pub picture : List ℕ

abbrev pub state : Session → ℕ → List ℕ → State
state s word pic = record { session = s; word = word; picture = pic }

-- "a fresh session": 01's record of zeros, on the glass that it was opened for (0 or 1, by request Thirteen), over any picture of any
-- word size: the size that its glass does not have is answered with 2
abbrev pub fresh : ℕ → ℕ → List ℕ → State
fresh glass word pic = state (record_of glass 0 0 0 0) word pic

-- a call: what it was given, what it answered and what it left are its fields, and its promise holds of them
pub data Call : Type 0 where
  header : ReadHeader → Call
  frame : ReadFrame → Call

-- a header call is given the record and leaves one; the picture is not lent to it
pub record HeaderStep (s : State) (c : ReadHeader) (t : State) : Type 0 where
  pub given : c.session ≡ s.session
  pub left : t.session ≡ session_after c
  pub word_kept : t.word ≡ s.word
  pub picture_kept : t.picture ≡ s.picture

-- a frame call is given the record, which it does not change, and is lent the picture
pub record FrameStep (s : State) (c : ReadFrame) (t : State) : Type 0 where
  pub given : c.session ≡ s.session
  pub sized : c.word ≡ s.word
  pub lent : c.picture ≡ s.picture
  pub session_kept : t.session ≡ s.session
  pub word_kept : t.word ≡ s.word
  pub left : t.picture ≡ c.picture'

abbrev pub Step : State → Call → State → Type 0
Step s (header c) t = HeaderStep s c t
Step s (frame c) t = FrameStep s c t

-- each call is given what the call before it left
pub data Day : State → List Call → State → Type 0 where
  no_call : {s : State} → Day s [] s
  call : {s t u : State} {c : Call} {cs : List Call} → Step s c t → Day t cs u → Day s (c ∷ cs) u

-- ---- refused calls

-- 01's number of a call's answer; a call is refused if it is not 0
unfoldable pub number : Call → ℕ
number (header c) = number_of c.answer
number (frame c) = number_of c.answer

-- "striking out every refused call": the others, themselves, in their order
unfoldable pub struck : List Call → List Call
struck [] = []
struck (c ∷ cs) = eqb (number c) 0 ⇒ c ∷ struck cs ∣ struck cs

-- striking out any of them
pub data Strikes : List Call → List Call → Type 0 where
  done : Strikes [] []
  keep : {c : Call} {cs ds : List Call} → Strikes cs ds → Strikes (c ∷ cs) (c ∷ ds)
  strike : {c : Call} {cs ds : List Call} → number c ≢ 0 → Strikes cs ds → Strikes (c ∷ cs) ds

-- none of these calls is refused
abbrev pub NoneRefused : List Call → Type 0
NoneRefused [] = Unit
NoneRefused (c ∷ cs) = (number c ≡ 0) × NoneRefused cs

-- ---- "the first picture with the accepted frames drawn over it in order"

unfoldable pub accepted : List Call → List ReadFrame
accepted [] = []
accepted (header c ∷ cs) = accepted cs
accepted (frame c ∷ cs) = eqb (number_of c.answer) 0 ⇒ c ∷ accepted cs ∣ accepted cs

-- a frame drawn over a picture, on the glass and under the size and the mode that the record had at that call
abbrev pub drawn_by : ReadFrame → List ℕ → List ℕ
drawn_by c pic = framed c.session.glass c.session.mode c.session.width c.session.height c.message pic

unfoldable pub drawn_over : List ReadFrame → List ℕ → List ℕ
drawn_over [] pic = pic
drawn_over (c ∷ cs) pic = drawn_over cs (drawn_by c pic)

-- ---- ", by 01's pixel rule": "A picture word is changed exactly if it lies in the channel, in some rectangle of the region, and in some listed tile; the last
-- such tile in message order decides"

-- the word that a frame puts at a place of the picture, or none
pub data Put : Type 0 where
  word : ℕ → Put
  no_word : Put

-- a listed tile's word of the pixel
abbrev pub tile_put : ReadFrame → ℕ → ℕ → Found → Put
tile_put c px py (found t) = word (tile_word c.session.glass c.session.mode (set_at c.message (set_place c.message)) t (64 * (py % 64) + px % 64))
tile_put c px py none = no_word

-- at a pixel of the channel
unfoldable pub pixel_put : ReadFrame → ℕ → ℕ → Put
pixel_put c px py = in_region (rects_of c.message 14) (rect_count c.message 14) px py ⇒ tile_put c px py (last_tile (frame_tiles c.message) px py) ∣ no_word

-- at place i of the picture, where pixel i % width of row i / width stands: the width is the one of that call, and a sync between two frames may change it
unfoldable pub put : ReadFrame → ℕ → Put
put c i = ltb i (c.session.height * c.session.width) ⇒ pixel_put c (i % c.session.width) (i / c.session.width) ∣ no_word

-- of two frames the later decides, where it puts a word
unfoldable pub or_before : Put → Put → Put
or_before (word w) before = word w
or_before no_word before = before

-- "the last accepted frame whose rule changes place i"
unfoldable pub last_put : List ReadFrame → ℕ → Put
last_put [] i = no_word
last_put (c ∷ cs) i = or_before (last_put cs i) (put c i)

-- "else the first picture's"
unfoldable pub or_first : Put → ℕ → ℕ
or_first (word w) first = w
or_first no_word first = first

-- ---- what was asked, and what was answered

-- what a call is asked, beside the record and the picture: its message, and for a frame call how long its four work lists are. What these hold is no part of it
pub data Asked : Type 0 where
  ask_header : List ℕ → Asked
  ask_frame : List ℕ → ℕ → ℕ → ℕ → ℕ → Asked

abbrev pub asked : Call → Asked
asked (header c) = ask_header c.message
asked (frame c) = ask_frame c.message (length c.y) (length c.cb) (length c.cr) (length c.scratch)

-- the whole answer: a header's number with its record, a frame's number and tiles
pub data Answer : Type 0 where
  of_header : Result Session Refusal → Answer
  of_frame : Result ℕ Refusal → Answer

abbrev pub answered : Call → Answer
answered (header c) = of_header c.answer
answered (frame c) = of_frame c.answer
