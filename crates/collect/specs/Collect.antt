-- Request One of 02: "a collector with a lent store that gathers one header block, or one frame from its begin block through its end block, and hands it on
-- whole". What it keeps beside the store, how a head is judged, what a byte makes of it, what a call answers, and what bytes come to one after the other.
-- (01 is this project's scope document, 02 its change requests, 001 is MS-RDPRFX: README, "What 01 is".)
use Rattle.std.specs.Prelude.{ℕ, zero, suc, ◌+◌, ◌-◌, ◌*◌, ◌/◌, ◌%◌, ◌^◌, List, [], ◌∷◌, ◌++◌, Bool, true, false, length, take, ltb, leb, eqb}
use Rattle.wire.specs.Le.{patch}
use Rattle.wire.specs.Refusal.{refusal_of as by_number}
use Rattle.whole.specs.Row.{◌!◌⨾◌, ◌⇒◌∣◌, ◌⨟◌}
use Rattle.collect.specs.declared.Collector.{Collector}
use Rattle.collect.specs.declared.Collected.{Collected}
use Rattle.collect.specs.declared.Took.{Took}
use Rattle.collect.specs.declared.Collected.TheVariants.{More, Header, Frame, Refused}

-- a refusal, by its number
abbrev pub refused_by : ℕ → Collected
refused_by n = Refused (by_number n)

-- ---- the record

-- what is gathered: nothing yet; a block for the header call; a block alone for the frame call; a frame; a frame, in its end block
abbrev pub outside : ℕ
outside = 0

abbrev pub to_header : ℕ
to_header = 1

abbrev pub to_frame : ℕ
to_frame = 2

abbrev pub in_frame : ℕ
in_frame = 3

abbrev pub at_end : ℕ
at_end = 4

-- between blocks: "the head waits beside the store", so many of its bytes are there
abbrev pub waiting : ℕ → ℕ → ℕ → ℕ → Collector
waiting part held seen head = record { held = held; end = 0; head = head; refused = 0; part = part; seen = seen }

-- "reset, which throws away what was gathered"
abbrev pub fresh : Collector
fresh = waiting outside 0 0 0

-- in a block: the store has so many bytes, and the block ends at a place
abbrev pub gathering : ℕ → ℕ → ℕ → Collector
gathering part held end = record { held = held; end = end; head = 0; refused = 0; part = part; seen = 0 }

-- a head was refused: it stays beside the store, and the frame's earlier blocks stay in it
abbrev pub refusing : ℕ → ℕ → ℕ → ℕ → Collector
refusing number part held head = record { held = held; end = 0; head = head; refused = number; part = part; seen = 6 }

-- ---- the head of a block: 01's "blockType 2, blockLen 4 (whole block)", kept as one number, low byte first

-- with a byte more, behind so many
unfoldable pub joined : ℕ → ℕ → ℕ → ℕ
joined head seen b = head + 256 ^ seen * b

-- its first bytes
unfoldable pub head_bytes : ℕ → ℕ → List ℕ
head_bytes zero head = []
head_bytes (suc n) head = head % 256 ∷ head_bytes n (head / 256)

-- its type, and its blockLen
abbrev pub type_of : ℕ → ℕ
type_of head = head % 65536

abbrev pub len_of : ℕ → ℕ
len_of head = head / 65536

-- "judged, in this order: type not CCC0 to CCC7 is 3, blockLen under 6 is 4, the frame's earlier blocks plus blockLen over the store is 13"
unfoldable pub head_fault : ℕ → ℕ → ℕ → ℕ
head_fault held head room =
    leb 0xCCC0 (type_of head) ! 3 ⨾
    leb (type_of head) 0xCCC7 ! 3 ⨾
    leb 6 (len_of head) ! 4 ⨾
    leb (held + len_of head) room ! 13 ⨾
    0

-- what a block of a type belongs to: a frame goes on through its end block CCC5, whatever comes before that; a begin CCC4 opens one; "outside a frame any block
-- but a begin is handed on alone; CCC5 to CCC7 then go to the frame call"
unfoldable pub part_after : ℕ → ℕ → ℕ
part_after part kind =
    eqb part in_frame ⇒ (eqb kind 0xCCC5 ⇒ at_end ∣ in_frame) ∣
    eqb kind 0xCCC4 ⇒ in_frame ∣
    leb kind 0xCCC3 ⇒ to_header ∣
    to_frame

-- ---- one byte

-- the collector and its store; and with them what was answered
pub record State : Type 0 where
  pub collector : Collector
  pub store : List ℕ

pub record Step : Type 0 where
  pub state : State
  pub answer : Collected

abbrev pub state : Collector → List ℕ → State
state c store = record { collector = c; store = store }

abbrev pub step : Collector → List ℕ → Collected → Step
step c store a = record { state = state c store; answer = a }

-- bytes of a block are in: it goes on; or it is whole, and then a frame waits for its next block, and any other part is handed on: the store's first bytes
unfoldable pub settled : ℕ → ℕ → ℕ → List ℕ → Step
settled part held end store =
    ltb held end ⇒ step (gathering part held end) store More ∣
    eqb part in_frame ⇒ step (waiting part held 0 0) store More ∣
    eqb part to_header ⇒ step fresh store (Header held) ∣
    step fresh store (Frame held)

-- the next bytes of the block under way
abbrev pub gathered : State → List ℕ → Step
gathered s bs = settled s.collector.part (s.collector.held + length bs) s.collector.end (patch s.store s.collector.held bs)

-- "When a block head is complete it is judged": a good one goes into the store, a refused one does not
unfoldable pub head_done : ℕ → ℕ → ℕ → ℕ → List ℕ → Step
head_done fault part held head store =
    eqb fault 0 ⇒ settled (part_after part (type_of head)) (held + 6) (held + len_of head) (patch store held (head_bytes 6 head)) ∣
    step (refusing fault part held head) store (refused_by fault)

-- so many bytes of a head are there: "the head waits beside the store till then"
unfoldable pub head_byte : ℕ → ℕ → ℕ → ℕ → List ℕ → Step
head_byte part held seen head store =
    ltb seen 6 ⇒ step (waiting part held seen head) store More ∣
    head_done (head_fault held head (length store)) part held head store

unfoldable pub byte : State → ℕ → Step
byte s b =
    eqb s.collector.end 0 ⇒
    head_byte s.collector.part s.collector.held (s.collector.seen + 1) (joined s.collector.head s.collector.seen b) s.store ∣
    gathered s (b ∷ [])

-- ---- records that calls could have made, and stores that fit them

-- between blocks: outside a frame nothing is gathered, in one at least its begin block
unfoldable pub between : ℕ → ℕ → Bool
between part held =
    eqb part outside ⇒ eqb held 0 ∣
    eqb part in_frame ! false ⨾
    leb 6 held

-- the refusal that belongs to a head: none before it is complete; then its number, which is 13 if its type and its blockLen are good
unfoldable pub refusal_of : ℕ → ℕ → ℕ
refusal_of seen head =
    ltb seen 6 ⇒ 0 ∣
    head_fault 0 head 0

unfoldable pub made_waiting : Collector → Bool
made_waiting c =
    leb c.seen 6 ! false ⨾
    ltb c.head (256 ^ c.seen) ! false ⨾
    eqb c.refused (refusal_of c.seen c.head) ! false ⨾
    between c.part c.held

-- where the block under way may end. Its blockLen is under 2^32, and its head is gathered. A block alone and a frame's begin stand at the store's start, and
-- the end is their blockLen; any other block of a frame stands behind at least 6 bytes, and begins 6 bytes back at the latest. An end block is never the first.
unfoldable pub may_end : ℕ → ℕ → ℕ → Bool
may_end part held end =
    eqb part in_frame ⇒ (ltb held 12 ⇒ ltb end 4294967296 ∣ ltb (end - held) 4294967290) ∣
    eqb part at_end ⇒ (ltb held 12 ⇒ false ∣ ltb (end - held) 4294967290) ∣
    leb to_header part ! false ⨾
    leb part to_frame ! false ⨾
    ltb end 4294967296

unfoldable pub made_gathering : Collector → Bool
made_gathering c =
    eqb c.refused 0 ! false ⨾
    eqb c.seen 0 ! false ⨾
    eqb c.head 0 ! false ⨾
    leb 6 c.held ! false ⨾
    ltb c.held c.end ! false ⨾
    may_end c.part c.held c.end

unfoldable pub collector_made : Collector → Bool
collector_made c =
    eqb c.end 0 ⇒ made_waiting c ∣
    made_gathering c

-- why a call takes nothing, 0 where it takes bytes: a record that no calls could have made is 12; "after such a refusal it answers the same until reset";
-- a store that is shorter than what is gathered, or than the end of the block under way, is 2
unfoldable pub collector_fault : Collector → ℕ → ℕ
collector_fault c room =
    collector_made c ! 12 ⨾
    (c.refused ⨟
    (leb c.held room ! 2 ⨾
    leb c.end room ! 2 ⨾
    0))

-- ---- one call

-- what one hand-over came to, and how many of its bytes were taken
pub record HandOver : Type 0 where
  pub step : Step
  pub taken : ℕ

abbrev pub took : ℕ → Step → HandOver
took n s = record { step = s; taken = n }

-- the answer of a call, and the store that it left
abbrev pub said : Took → List ℕ → HandOver
said r store = took r.taken (step r.collector store r.answer)

abbrev pub goes_on : Collected → Bool
goes_on More = true
goes_on (Header n) = false
goes_on (Frame n) = false
goes_on (Refused n) = false

-- bytes, up to the first that hands on or is refused, where n are taken before: "a call stops at the end of what it hands on and says how many bytes it
-- took"
unfoldable pub walk : State → ℕ → List ℕ → HandOver
walk s n [] = took n (step s.collector s.store More)
walk s n (b ∷ bs) =
    goes_on (byte s b).answer ⇒ walk (byte s b).state (n + 1) bs ∣
    took (n + 1) (byte s b)

-- one call
unfoldable pub collect_of : State → List ℕ → HandOver
collect_of s bs =
    eqb (collector_fault s.collector (length s.store)) 0 ⇒ walk s 0 bs ∣
    took 0 (step s.collector s.store (refused_by (collector_fault s.collector (length s.store))))

-- ---- bytes given one at a time: the state that they lead to, and the parts that are handed on

-- whether a part is for the header call (else for the frame call), and its bytes
pub record Part : Type 0 where
  pub header : Bool
  pub bytes : List ℕ

abbrev pub handed_on : Collected → List ℕ → List Part
handed_on More store = []
handed_on (Header n) store = record { header = true; bytes = take n store } ∷ []
handed_on (Frame n) store = record { header = false; bytes = take n store } ∷ []
handed_on (Refused n) store = []

abbrev pub parts_of : Step → List Part
parts_of s = handed_on s.answer s.state.store

unfoldable pub feed : State → List ℕ → State
feed s [] = s
feed s (b ∷ bs) = feed (collect_of s (b ∷ [])).step.state bs

unfoldable pub handed : State → List ℕ → List Part
handed s [] = []
handed s (b ∷ bs) = parts_of (collect_of s (b ∷ [])).step ++ handed (collect_of s (b ∷ [])).step.state bs
