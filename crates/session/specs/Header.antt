-- The session record and what a header call answers, in 01's order.
-- (01 is this project's scope document, 02 its change requests, 001 is MS-RDPRFX: README, "What 01 is".)
use Rattle.std.specs.Prelude.{ℕ, ◌+◌, ◌*◌, ◌/◌, ◌%◌, ◌≡◌, List, Bool, true, false, length, get_or, ltb, leb, eqb, Result, Ok, Err}
use Rattle.wire.specs.Le.{le16, le32}
use Rattle.wire.specs.Mode.{is_mode}
use Rattle.whole.specs.Row.{◌!◌⨾◌, ◌⇒◌∣◌, ◌⨟◌}
use Rattle.session.specs.declared.Session.{Session}
use Rattle.wire.specs.Refusal.{refusal_of}
use Rattle.wire.specs.declared.Refusal.{Refusal}

-- ---- the record: "how many headers are in, width, height, mode (et), all 0 when fresh"; and, by 02's request Six, "Tile columns and rows"
-- and "the picture's word count": "Keep both .. in the session record, set when channels are taken and cleared by a sync."; by request Thirteen
-- "The session record now names the glass, chosen when the session is opened and kept through a sync": 0 is 16 bits a word, 1 is 32.

-- how many tiles of 64 stand over n pixels; the last may be cut
unfoldable pub tiles_over : ℕ → ℕ
tiles_over n = (n + 63) / 64

-- a record of a glass, in 01's words: headers, width, height, mode; what request Six keeps beside them follows from the size
abbrev pub record_of : ℕ → ℕ → ℕ → ℕ → ℕ → Session
record_of glass headers w h mode =
    record { headers = headers; mode = mode; width = w; height = h; columns = tiles_over w; rows = tiles_over h; words = w * h; glass = glass }

-- the same as a program is given the numbers, whatever they are: columns and rows have a byte each, which holds those of every size that 01 allows
unfoldable pub of_glass : ℕ → ℕ → ℕ → ℕ → ℕ → Session
of_glass glass headers w h mode =
    record { headers = headers; mode = mode; width = w; height = h; columns = tiles_over w % 256; rows = tiles_over h % 256; words = w * h; glass = glass }

-- 01's four numbers, on the base's glass
abbrev pub of_numbers : ℕ → ℕ → ℕ → ℕ → Session
of_numbers headers w h mode = of_glass 0 headers w h mode

-- a record with another count of headers and another mode, and the rest as it is
unfoldable pub stepped : Session → ℕ → ℕ → Session
stepped s headers mode =
    record { headers = headers; mode = mode; width = s.width; height = s.height; columns = s.columns; rows = s.rows; words = s.words; glass = s.glass }

-- "They must be right after every call": the three numbers are those of width and height
pub record Right (s : Session) : Type 0 where
  pub columns : s.columns ≡ tiles_over s.width
  pub rows : s.rows ≡ tiles_over s.height
  pub words : s.words ≡ s.width * s.height

-- the same, as a test
unfoldable pub right : Session → Bool
right s =
    eqb s.columns (tiles_over s.width) ! false ⨾
    eqb s.rows (tiles_over s.height) ! false ⨾
    eqb s.words (s.width * s.height)

-- "width 1 to 4,096, height 1 to 2,048"
unfoldable pub size_good : ℕ → ℕ → Bool
size_good w h =
    leb 1 w ! false ⨾
    leb w 4096 ! false ⨾
    leb 1 h ! false ⨾
    leb h 2048

-- are size and mode those that so many headers have given?
unfoldable pub counted : ℕ → ℕ → ℕ → ℕ → Bool
counted headers w h mode =
    ltb headers 3 ⇒ (eqb w 0 ! false ⨾ eqb h 0 ! false ⨾ eqb mode 0) ∣
    size_good w h ! false ⨾
    eqb headers 3 ⇒ eqb mode 0 ∣
    eqb headers 4 ! false ⨾
    is_mode mode

-- could calls have made this record?  "A record that no calls could have made answers 12 wherever one is judged, but takes a good sync"
unfoldable pub made : Session → Bool
made s =
    leb s.glass 1 ! false ⨾
    right s ! false ⨾
    counted s.headers s.width s.height s.mode

-- all four headers are in: "a frame before all four headers" is 12, and so is a record that no calls could have made
unfoldable pub ready : Session → Bool
ready s = eqb s.headers 4 ! false ⨾ made s

-- "Headers come in table order; a good sync is always due": a sync by its type alone, any other if it is the next of a record that calls could have made
unfoldable pub due : Session → ℕ → Bool
due s t = eqb t 0xCCC0 ⇒ true ∣ made s ! false ⨾ eqb t (0xCCC0 + s.headers)

-- ---- "Blocks": the bytes of a type, and the fields of each block as numbers, in wire order (5)

unfoldable pub size_of : ℕ → ℕ
size_of t = eqb t 0xCCC1 ⇒ 10 ∣ eqb t 0xCCC3 ⇒ 13 ∣ 12

-- "magic CACCACCA, version 0100"
unfoldable pub sync_judge : ℕ → ℕ → ℕ
sync_judge magic version = eqb magic 0xCACCACCA ! 5 ⨾ eqb version 0x0100 ! 5 ⨾ 0

-- "count 1, codec 1, version 0100"
unfoldable pub versions_judge : ℕ → ℕ → ℕ → ℕ
versions_judge count codec version = eqb count 1 ! 5 ⨾ eqb codec 1 ! 5 ⨾ eqb version 0x0100 ! 5 ⨾ 0

-- "count 1, id 0, width 1 to 4,096, height 1 to 2,048"
unfoldable pub channels_judge : ℕ → ℕ → ℕ → ℕ → ℕ
channels_judge count id w h =
    eqb count 1 ! 5 ⨾
    eqb id 0 ! 5 ⨾
    size_good w h ! 5 ⨾
    0

-- "Context properties from the low bit: flags 3, cct 2 = 1, xft 4 = 1, et 4, qt 2 = 1, one spare"; "Flags and spare aren't judged"
unfoldable pub et_of : ℕ → ℕ
et_of p = p / 512 % 16

unfoldable pub properties_good : ℕ → Bool
properties_good p =
    eqb (p / 8 % 4) 1 ! false ⨾
    eqb (p / 32 % 16) 1 ! false ⨾
    is_mode (et_of p) ! false ⨾
    eqb (p / 8192 % 4) 1

-- "codecId 1 and channelId: 0xFF in the context", "ctxId 0, tileSize 2 bytes = 64, properties 2"
unfoldable pub context_judge : ℕ → ℕ → ℕ → ℕ → ℕ → ℕ
context_judge codec channel context side p =
    eqb codec 1 ! 5 ⨾
    eqb channel 0xFF ! 5 ⨾
    eqb context 0 ! 5 ⨾
    eqb side 64 ! 5 ⨾
    properties_good p ! 5 ⨾
    0

-- the same judges on a block that is whole: where each field stands
unfoldable pub sync_fault : List ℕ → ℕ
sync_fault m = sync_judge (le32 m 6) (le16 m 10)

unfoldable pub versions_fault : List ℕ → ℕ
versions_fault m = versions_judge (get_or m 6 0) (get_or m 7 0) (le16 m 8)

unfoldable pub channels_fault : List ℕ → ℕ
channels_fault m = channels_judge (get_or m 6 0) (get_or m 7 0) (le16 m 8) (le16 m 10)

unfoldable pub context_fault : List ℕ → ℕ
context_fault m = context_judge (get_or m 6 0) (get_or m 7 0) (get_or m 8 0) (le16 m 9) (le16 m 11)

-- 5 is "a fixed field differs, or size or mode is not allowed"
unfoldable pub field_fault : List ℕ → ℕ → ℕ
field_fault m t =
    eqb t 0xCCC0 ⇒ sync_fault m ∣
    eqb t 0xCCC1 ⇒ versions_fault m ∣
    eqb t 0xCCC2 ⇒ channels_fault m ∣
    context_fault m

-- ---- "Header call: head of 6 bytes (1), type CCC0 to CCC3 (3), due (12), length (4), whole block present (1), fields in wire order (5),
-- then bytes after it (4)"

-- 3 is "block type not one the call takes", 12 "a known header not due"
unfoldable pub head_judge : Session → ℕ → ℕ → ℕ → ℕ
head_judge s t size len =
    leb 0xCCC0 t ! 3 ⨾
    leb t 0xCCC3 ! 3 ⨾
    due s t ! 12 ⨾
    eqb size (size_of t) ! 4 ⨾
    leb size len ! 1 ⨾
    0

unfoldable pub header_fault : Session → List ℕ → ℕ
header_fault s m =
    leb 6 (length m) ! 1 ⨾
    head_judge s (le16 m 0) (le32 m 2) (length m) ⨟
    field_fault m (le16 m 0) ⨟
    (eqb (length m) (le32 m 2) ! 4 ⨾ 0)

-- the glass after a sync, "kept through a sync" (02); one that no session was opened with gives way to the base's, since every record takes a good sync
unfoldable pub kept_glass : ℕ → ℕ
kept_glass glass = leb glass 1 ⇒ glass ∣ 0

-- the record after a good block; a sync "starts the session over (record 1, 0, 0, 0)"
unfoldable pub record_after : Session → List ℕ → Session
record_after s m =
    eqb (le16 m 0) 0xCCC0 ⇒ record_of (kept_glass s.glass) 1 0 0 0 ∣
    eqb (le16 m 0) 0xCCC1 ⇒ record_of s.glass 2 s.width s.height s.mode ∣
    eqb (le16 m 0) 0xCCC2 ⇒ record_of s.glass 3 (le16 m 8) (le16 m 10) 0 ∣
    record_of s.glass 4 s.width s.height (et_of (le16 m 11))

-- ---- the answer: 01's number, and the record after the call: "A refused header or frame changes neither record nor picture."

abbrev pub header_record : Result Session Refusal → Session → Session
header_record (Ok s) before = s
header_record (Err refusal) before = before

-- what the call answers, of the record and the message
unfoldable pub header_reading : Session → List ℕ → Result Session Refusal
header_reading s m = eqb (header_fault s m) 0 ⇒ Ok (record_after s m) ∣ Err (refusal_of (header_fault s m))
