-- A stream shown: whatever pieces the input gives, one after the other, each is given to the collector up to its end, and the parts that it hands on go to
-- their calls. 02, One: "A call stops at the end of what it hands on and says how many bytes it took; the rest is given again." A block of a foreign type,
-- which the collector refuses with 3, is passed over by its blockLen, and the collector starts anew behind it. All of it over a picture of either word size: 0
-- is 16 bits, 1 is 32 (02, Thirteen).
use Rattle.std.specs.Prelude.{◌≡◌, ℕ, ◌+◌, ◌-◌, ◌/◌, ◌%◌, ◌^◌, ◌≤◌, Bool, true, false, List, [], length, drop, nat_eq, nat_le}
use Rattle.whole.specs.Row.{◌!◌⨾◌, ◌⇒◌∣◌}
use Rattle.session.specs.declared.Session.{Session}
use Rattle.frame.specs.Frame.{call_fault, frame_number, frame_picture}
use Rattle.collect.specs.Collect.{HandOver, fresh, state, collect_of}
use Rattle.collect.specs.declared.Collector.{Collector}
use Rattle.collect.specs.declared.Collected.{Collected}
use Rattle.collect.specs.declared.Collected.TheVariants.{More, Header, Frame, Refused}
use Rattle.app_text.specs.First.{first_of}
use Rattle.app_calls.specs.declared.given.Desk.{Desk}
use Rattle.app_calls.specs.Given.{moved, desk_part, Scene, scene}

-- ---- the desk

-- at a place of the piece
unfoldable pub placed : Desk → ℕ → Desk
placed d at = record { s = d.s; c = d.c; at = at; width = d.width; height = d.height; headers = d.headers; frames = d.frames }

-- a refused head that can be passed over: its type is foreign, its blockLen at least its own size
unfoldable pub foreign_of : Collector → Bool
foreign_of c =
    nat_eq c.refused 3 ! false ⨾
    nat_le 6 (c.head / 65536)

-- the block's bytes behind its head
abbrev pub behind_of : Collector → ℕ
behind_of c = c.head / 65536 - 6

-- the collector anew, behind that block: where it goes on past the piece, so does the place
unfoldable pub anew_desk : Desk → Desk
anew_desk d =
    record {
      s = d.s;
      c = fresh;
      at = (d.at + behind_of d.c) % 2 ^ 64;
      width = d.width;
      height = d.height;
      headers = d.headers;
      frames = d.frames;
    }

abbrev pub settled_desk : Desk → Desk
settled_desk e = foreign_of e.c ⇒ anew_desk e ∣ e

-- ---- the picture

-- a frame call with four work lists of 4,096 numbers
abbrev pub frame_drawn : ℕ → Session → List ℕ → List ℕ → List ℕ
frame_drawn word s m pic = frame_picture (frame_number (call_fault word s (length pic) 4096 4096 4096 4096) s m) s m pic

-- the picture after a part that was handed on
unfoldable pub drawn : ℕ → List ℕ → Session → Collected → List ℕ → List ℕ
drawn word store s More pic = pic
drawn word store s (Header n) pic = pic
drawn word store s (Frame n) pic = frame_drawn word s (first_of store n) pic
drawn word store s (Refused n) pic = pic

-- ---- one hand-over

-- what the collector makes of bytes
abbrev pub taken : Desk → List ℕ → List ℕ → HandOver
taken d bytes store = collect_of (state d.c store) bytes

-- the desk after its part went to its call
abbrev pub played : Desk → HandOver → Desk
played d r = desk_part r.step.state.store (moved d r.step.state.collector r.taken) r.step.answer

-- desk, store and picture after a hand-over of what is left of a piece
abbrev pub handed : ℕ → List ℕ → Scene → Scene
handed word piece t =
    let r = taken t.desk (drop t.desk.at piece) t.store in
    let e = played t.desk r in
    scene e r.step.state.store (drawn word r.step.state.store e.s r.step.answer t.picture)

-- ---- a stream: `piece` is what was read last, and the desk's place says how much of it has been given

pub data Shown (word : ℕ) (s : Scene) : Scene → List ℕ → Type 0 where
  -- nothing has been read
  none : Shown word s s []
  -- a piece, once the one before is at its end; what was to be passed over beyond that is passed over in this one
  read :
      (t : Scene) (piece new : List ℕ)
      → Shown word s t piece
      → length piece ≤ t.desk.at
      → Shown word s (scene (placed t.desk (t.desk.at - length piece)) t.store t.picture) new
  -- a hand-over
  more : (t : Scene) (piece : List ℕ) → Shown word s t piece → Shown word s (handed word piece t) piece
  -- the collector anew behind a foreign block
  anew :
      (t : Scene) (piece : List ℕ)
      → Shown word s t piece
      → foreign_of t.desk.c ≡ true
      → Shown word s (scene (anew_desk t.desk) t.store t.picture) piece

-- from one scene to another, whatever was read last
pub record ShownTo (word : ℕ) (s t : Scene) : Type 0 where
  pub piece : List ℕ
  pub shown : Shown word s t piece

-- ---- what the parts of the program do of this

-- the piece that is there, or the next
pub data Filled (d : Desk) (piece : List ℕ) : Desk → List ℕ → Type 0 where
  same : Filled d piece d piece
  next : (new : List ℕ) → length piece ≤ d.at → Filled d piece (placed d (d.at - length piece)) new

-- a hand-over of bytes, all but the picture, and settled
pub record Given (d : Desk) (bytes store store' : List ℕ) (r : Desk) (a : Collected) : Type 0 where
  pub desk : r ≡ settled_desk (played d (taken d bytes store))
  pub left : store' ≡ (taken d bytes store).step.state.store
  pub answer : a ≡ (taken d bytes store).step.answer

-- both: the piece is filled, and what is left of it is handed over
pub record Handed (d : Desk) (piece store piece' store' : List ℕ) (r : Desk) (a : Collected) : Type 0 where
  pub from : Desk
  pub filled : Filled d piece from piece'
  pub given : Given from (drop from.at piece') store store' r a
