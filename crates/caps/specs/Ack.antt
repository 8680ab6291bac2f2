-- The frame acknowledge message of 001, 2.2.3.1, TS_FRAME_ACKNOWLEDGE_PDU: its last two parts, shareDataHeader (18 bytes) and frameID (4). The parts in
-- front are the link's own.
use Rattle.std.specs.Prelude.{ℕ, ◌+◌, ◌*◌, ◌/◌, ◌%◌, ◌<◌, List, ◌∷◌, ◌++◌, leb, eqb, Result, Ok, Err}
use Rattle.whole.specs.Row.{◌!◌⨾◌}
use Rattle.wire.specs.Le.{bytes16, bytes32}
use Rattle.caps.specs.Walk.{Layout, gives, refuse, field, walk, answered}
use Rattle.caps.specs.declared.walk.Width.TheVariants.{One, Two, Four}
use Rattle.caps.specs.declared.Ack.{Ack}
use Rattle.wire.specs.declared.Refusal.{Refusal}

-- totalLength counts these 22 bytes. pduType: "The type subfield .. MUST be set to PDUTYPE_DATAPDU (0x0007)", the low four bits; the upper twelve are the
-- version, which is any. "The pduType2 field .. MUST be set to PDUTYPE2_FRAME_ACKNOWLEDGE (0x38)". Everything else is kept and not judged
unfoldable pub ack : Layout Ack
ack =
    field Two λ totalLength. eqb totalLength 22 ! refuse 4 ⨾
    field Two λ pduType. eqb (pduType % 16) 7 ! refuse 5 ⨾
    field Two λ pduSource.
    field Four λ shareId.
    field One λ pad1.
    field One λ streamId.
    field Two λ uncompressedLength.
    field One λ pduType2. eqb pduType2 0x38 ! refuse 5 ⨾
    field One λ compressedType.
    field Two λ compressedLength.
    field Four λ frameID.
    gives (record {
      version = pduType / 16;
      source = pduSource;
      share = shareId;
      pad = pad1;
      stream = streamId;
      uncompressed = uncompressedLength;
      compression = compressedType;
      compressed = compressedLength;
      frame = frameID;
    })

unfoldable pub ack_of : Ack → List ℕ
ack_of a =
    bytes16 22 ++ (bytes16 (7 + 16 * a.version) ++ (bytes16 a.source ++ (bytes32 a.share ++ (a.pad ∷ a.stream ∷
    (bytes16 a.uncompressed ++ (0x38 ∷ a.compression ∷ (bytes16 a.compressed ++ bytes32 a.frame)))))))

unfoldable pub read_ack : List ℕ → Result Ack Refusal
read_ack m = answered (walk ack m)

-- its fields, of which a refusal gives none: all are 0
abbrev pub ack_fields : Result Ack Refusal → Ack
ack_fields (Ok a) = a
ack_fields (Err refusal) = record { version = 0; source = 0; share = 0; pad = 0; stream = 0; uncompressed = 0; compression = 0; compressed = 0; frame = 0 }

-- what the writer refuses: a version has twelve bits, else 5; 13 is room
unfoldable pub ack_fault : ℕ → ℕ → ℕ
ack_fault version room =
    leb version 4095 ! 5 ⨾
    leb 22 room ! 13 ⨾
    0

-- ---- the fields that are written: each fits its place

pub record GoodAck (a : Ack) : Type 0 where
  pub version : a.version < 4096
  pub source : a.source < 65536
  pub share : a.share < 4294967296
  pub pad : a.pad < 256
  pub stream : a.stream < 256
  pub uncompressed : a.uncompressed < 65536
  pub compression : a.compression < 256
  pub compressed : a.compressed < 65536
  pub frame : a.frame < 4294967296
