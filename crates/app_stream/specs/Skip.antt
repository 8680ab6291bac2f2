-- What is longer than the collector's store, passed over by its lengths. 02, One: "judged, in this order: type not CCC0 to CCC7 is 3, blockLen under 6 is 4,
-- the
-- frame's earlier blocks plus blockLen over the store is 13"; "a collector .. that gathers one header block, or one frame from its begin block through its end
-- block". So what a head refused with 13 belongs to ends where the collector would hand it on: at the block's end, or at the end of the frame's end block. A
-- head
-- inside that has a fault of its own, 3 or 4, has no length that could be gone by: it is what the collector says of it.
-- (01 is this project's scope document, 02 its change requests, 001 is MS-RDPRFX: README, "What 01 is".)
use Rattle.std.specs.Prelude.{ℕ, ◌+◌, ◌-◌, ◌*◌, ◌/◌, Bool, true, false, List, [], ◌∷◌, ltb, eqb}
use Rattle.whole.specs.Row.{◌!◌⨾◌, ◌⇒◌∣◌}
use Rattle.collect.specs.Collect.{outside, in_frame, type_of, len_of, head_fault, part_after, fresh, refusing}
use Rattle.collect.specs.declared.Collector.{Collector}
use Rattle.app_stream.specs.declared.skip.Skip.{Skip}
use Rattle.app_stream.specs.declared.skip.Skipped.{Skipped}

-- ---- the record

-- in a block, of which so many bytes are left; a frame goes on behind it, or not
abbrev pub over : Bool → ℕ → Skip
over inside left = record { left = left; head = 0; inside = inside; seen = 0 }

-- between the blocks of a frame: so many bytes of a head are there
abbrev pub waiting : ℕ → ℕ → Skip
waiting seen head = record { left = 0; head = head; inside = true; seen = seen }

abbrev pub none : Skip
none = over false 0

-- ---- blocks

-- does a frame go on behind a block of a type? As the collector has it: "through its end block"
abbrev pub stays : ℕ → ℕ → Bool
stays part kind = eqb (part_after part kind) in_frame

-- so many bytes of a block are left: at its end a frame goes on with its next block
unfoldable pub passed : Bool → ℕ → Skip
passed inside left =
    ltb 0 left ⇒ over inside left ∣
    inside ⇒ waiting 0 0 ∣
    none

-- a block's bytes behind its head
abbrev pub behind : ℕ → ℕ
behind head = len_of head - 6

-- behind a head that the collector refused with 13
abbrev pub begun : Collector → Skip
begun c = passed (stays c.part (type_of c.head)) (behind c.head)

-- ---- heads

-- what the collector says of a head by itself, however much room there is: 3, 4 or 0
abbrev pub own_fault : ℕ → ℕ
own_fault head = head_fault 0 head (len_of head)

-- the next byte of a head goes in above, and those before it move down: six bytes are the head's number (`six-are`), low byte first
abbrev pub shifted : ℕ → ℕ → ℕ
shifted head b = head / 256 + b * 1099511627776

-- so many bytes of a head are there: a good one is passed over with its block
unfoldable pub head_skip : ℕ → ℕ → Skip
head_skip seen head =
    ltb seen 6 ⇒ waiting seen head ∣
    eqb (own_fault head) 0 ⇒ passed (stays in_frame (type_of head)) (behind head) ∣
    waiting 6 head

-- ---- bytes

unfoldable pub byte_over : Skip → ℕ → Skip
byte_over s b =
    eqb s.left 0 ⇒ head_skip (s.seen + 1) (shifted s.head b) ∣
    passed s.inside (s.left - 1)

-- is more to be passed over?
unfoldable pub goes : Skip → Bool
goes s =
    ltb 0 s.left ⇒ true ∣
    s.inside ! false ⨾
    ltb s.seen 6

-- bytes, where n were passed over before
unfoldable pub skip_from : Skip → ℕ → List ℕ → Skipped
skip_from s n [] = record { skip = s; taken = n }
skip_from s n (b ∷ bs) =
    goes s ! record { skip = s; taken = n } ⨾
    skip_from (byte_over s b) (n + 1) bs

-- how the collector goes on behind it: fresh; or at a head that cannot be passed over, refused as it would refuse it
unfoldable pub left_by : Skip → Collector
left_by s =
    eqb s.seen 6 ⇒ refusing (own_fault s.head) outside 0 s.head ∣
    fresh
