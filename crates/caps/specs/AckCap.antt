-- The frame acknowledge capability of 001, 2.2.1.3, TS_FRAME_ACKNOWLEDGE_CAPABILITYSET: 8 bytes.
use Rattle.std.specs.Prelude.{ℕ, ◌<◌, List, ◌++◌, leb, eqb, Result, Ok, Err}
use Rattle.whole.specs.Row.{◌!◌⨾◌}
use Rattle.wire.specs.Le.{bytes16, bytes32}
use Rattle.caps.specs.Walk.{Layout, gives, refuse, field, walk, answered}
use Rattle.caps.specs.declared.walk.Width.TheVariants.{Two, Four}
use Rattle.wire.specs.declared.Refusal.{Refusal}

-- lengthCapability counts type and length too, as in every capability set; the count is any
unfoldable pub ack_cap : Layout ℕ
ack_cap =
    field Two λ capabilitySetType. eqb capabilitySetType 0x001E ! refuse 5 ⨾
    field Two λ lengthCapability. eqb lengthCapability 8 ! refuse 4 ⨾
    field Four λ maxUnacknowledgedFrameCount.
    gives maxUnacknowledgedFrameCount

unfoldable pub ack_cap_of : ℕ → List ℕ
ack_cap_of count = bytes16 0x001E ++ (bytes16 8 ++ bytes32 count)

unfoldable pub read_ack_cap : List ℕ → Result ℕ Refusal
read_ack_cap m = answered (walk ack_cap m)

-- its count, which is 0 where the message is refused
abbrev pub ack_cap_count : Result ℕ Refusal → ℕ
ack_cap_count (Ok count) = count
ack_cap_count (Err refusal) = 0

-- what the writer refuses: 13 is room
unfoldable pub ack_cap_fault : ℕ → ℕ
ack_cap_fault room =
    leb 8 room ! 13 ⨾
    0

-- the count that is written fits its place
abbrev pub GoodAckCap : ℕ → Type 0
GoodAckCap count = count < 4294967296
