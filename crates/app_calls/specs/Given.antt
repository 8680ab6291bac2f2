-- A stream given to the collector: 02, One: "A call stops at the end of what it hands on and says how many bytes it took; the rest is given again." Each part
-- that is handed on goes to its call: where the desk stands, and what store and picture hold, after each hand-over and after all of them.
use Rattle.std.specs.Prelude.{◌≡◌, ℕ, zero, suc, ◌+◌, ◌%◌, ◌^◌, List, length, drop, nat_eq, nat_lt}
use Rattle.whole.specs.Row.{◌!◌⨾◌, ◌⇒◌∣◌}
use Rattle.session.specs.declared.Session.{Session}
use Rattle.collect.specs.Collect.{HandOver, state, collect_of}
use Rattle.collect.specs.declared.Collector.{Collector}
use Rattle.collect.specs.declared.Collected.{Collected}
use Rattle.collect.specs.declared.Collected.TheVariants.{More, Header, Frame, Refused}
use Rattle.app_text.specs.First.{first_of}
use Rattle.app_calls.specs.declared.calls.Lengths.{Lengths}
use Rattle.app_calls.specs.declared.given.Desk.{Desk}
use Rattle.app_calls.specs.Calls.{header_left, frame_made, fits}

-- one more, in 64 bits
abbrev pub up : ℕ → ℕ
up n = (n + 1) % 2 ^ 64

-- ---- the desk

unfoldable pub fresh_desk : Session → Collector → Desk
fresh_desk s c = record { s = s; c = c; at = 0; width = 0; height = 0; headers = 0; frames = 0 }

unfoldable pub started : Desk → Desk
started d = record { s = d.s; c = d.c; at = 0; width = d.width; height = d.height; headers = d.headers; frames = d.frames }

unfoldable pub moved : Desk → Collector → ℕ → Desk
moved d c taken =
    record { s = d.s; c = c; at = (d.at + taken) % 2 ^ 64; width = d.width; height = d.height; headers = d.headers; frames = d.frames }

-- after a header call that left the record s: the size is the record's, once it has one
unfoldable pub header_desk : Desk → Session → Desk
header_desk d s =
    nat_eq s.width 0 ⇒ (record { s = s; c = d.c; at = d.at; width = d.width; height = d.height; headers = up d.headers; frames = d.frames }) ∣
    record { s = s; c = d.c; at = d.at; width = s.width; height = s.height; headers = up d.headers; frames = d.frames }

-- after a frame call: the record is what it was
unfoldable pub frame_desk : Desk → Desk
frame_desk d = record { s = d.s; c = d.c; at = d.at; width = d.width; height = d.height; headers = d.headers; frames = up d.frames }

-- ---- a part goes to its call

-- the desk after it
unfoldable pub desk_part : List ℕ → Desk → Collected → Desk
desk_part store d More = d
desk_part store d (Header n) = header_desk d (header_left d.s (first_of store n))
desk_part store d (Frame n) = frame_desk d
desk_part store d (Refused n) = d

-- the picture after it: of a frame call with work lists of these lengths; where there are none so long, no call is made
unfoldable pub shown : Lengths → Session → List ℕ → List ℕ → List ℕ
shown n s m pic = fits n.one n.two n.three ⇒ frame_made s m n.one n.two n.three pic ∣ pic

unfoldable pub picture_part : Lengths → List ℕ → Desk → Collected → List ℕ → List ℕ
picture_part n store d More pic = pic
picture_part n store d (Header k) pic = pic
picture_part n store d (Frame k) pic = shown n d.s (first_of store k) pic
picture_part n store d (Refused k) pic = pic

pub record PartPlayed (n : Lengths) (store : List ℕ) (d : Desk) (a : Collected) (pic pic' : List ℕ) (r : Desk) : Type 0 where
  pub desk : r ≡ desk_part store d a
  pub picture : pic' ≡ picture_part n store d a pic

-- ---- hand-overs

-- all that goes on: the desk, the store, the picture
pub record Scene : Type 0 where
  pub desk : Desk
  pub store : List ℕ
  pub picture : List ℕ

abbrev pub scene : Desk → List ℕ → List ℕ → Scene
scene d store pic = record { desk = d; store = store; picture = pic }

-- what the collector makes of the bytes that are left
abbrev pub taken : List ℕ → Scene → HandOver
taken bytes t = collect_of (state t.desk.c t.store) (drop t.desk.at bytes)

abbrev pub played : Lengths → Scene → HandOver → Scene
played n t r =
    let d = moved t.desk r.step.state.collector r.taken in
    let store = r.step.state.store in
    scene (desk_part store d r.step.answer) store (picture_part n store d r.step.answer t.picture)

-- one hand-over of what is left
unfoldable pub scene_after : Lengths → List ℕ → Scene → Scene
scene_after n bytes t = played n t (taken bytes t)

-- at most so many of them
unfoldable pub scene_given : Lengths → List ℕ → ℕ → Scene → Scene
scene_given n bytes zero t = t
scene_given n bytes (suc k) t = nat_lt t.desk.at (length bytes) ! t ⨾ scene_given n bytes k (scene_after n bytes t)

-- all of the bytes
unfoldable pub given_to : Lengths → List ℕ → Scene → Scene
given_to n bytes t = scene_given n bytes (length bytes) (scene (started t.desk) t.store t.picture)
