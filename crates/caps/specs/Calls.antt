-- The six calls as a customer sees them: what was given, what was answered, what lent memory holds afterwards (marked '), and that the call's promise,
-- which is its `ensures`, holds of them. Nothing else is known of a call but that its numbers fit their types.
use Rattle.std.specs.Prelude.{ℕ, ◌<◌, ◌≡◌, List, eqb, length, take, Result}
use Rattle.whole.specs.Row.{◌⇒◌∣◌}
use Rattle.wire.specs.Refusal.{count_of}
use Rattle.wire.specs.Wrote.{Wrote}
use Rattle.wire.specs.declared.Refusal.{Refusal}
use Rattle.caps.specs.Walk.{Bytes}
use Rattle.caps.specs.Caps.{Entries, no_entry, one_entry, two_entries, caps_with, entries_in, read_caps, caps_of, caps_fault}
use Rattle.caps.specs.AckCap.{read_ack_cap, ack_cap_of, ack_cap_fault}
use Rattle.caps.specs.Ack.{read_ack, ack_of, ack_fault}
use Rattle.caps.specs.declared.Caps.{Caps}
use Rattle.caps.specs.declared.Ack.{Ack}

-- what a writer has written: its output up to the length that it says
abbrev pub sent_by : Result ℕ Refusal → List ℕ → List ℕ
sent_by answer out' = take (count_of answer) out'

-- ---- the container

-- read_caps
pub record ReadCaps : Type 0 where
  pub message : List ℕ
  pub bytes : Bytes message
  pub answer : Result Caps Refusal
  pub promise : answer ≡ read_caps message

-- the numbers of a struct fit their types
pub record CapsFit (c : Caps) : Type 0 where
  pub flags : c.flags < 4294967296
  pub first : c.first.flags < 256
  pub second : c.second.flags < 256

-- write_caps
pub record WriteCaps : Type 0 where
  pub caps : Caps
  pub fit : CapsFit caps
  pub out : List ℕ
  pub out' : List ℕ
  pub answer : Result ℕ Refusal
  pub promise : Wrote (caps_fault caps (length out)) (caps_of caps) out out' answer

-- the entries past n are no fields, and come back as 0 0
unfoldable pub there : Entries → Entries
there s =
    eqb s.n 0 ⇒ no_entry ∣
    eqb s.n 1 ⇒ one_entry s.first ∣
    two_entries s.first s.second

abbrev pub fields_of : Caps → Caps
fields_of c = caps_with c.flags (there (entries_in c))

-- ---- the frame acknowledge capability

-- read_ack_cap
pub record ReadAckCap : Type 0 where
  pub message : List ℕ
  pub bytes : Bytes message
  pub answer : Result ℕ Refusal
  pub promise : answer ≡ read_ack_cap message

-- write_ack_cap
pub record WriteAckCap : Type 0 where
  pub count : ℕ
  pub fit : count < 4294967296
  pub out : List ℕ
  pub out' : List ℕ
  pub answer : Result ℕ Refusal
  pub promise : Wrote (ack_cap_fault (length out)) (ack_cap_of count) out out' answer

-- ---- the frame acknowledge message

-- read_ack
pub record ReadAck : Type 0 where
  pub message : List ℕ
  pub bytes : Bytes message
  pub answer : Result Ack Refusal
  pub promise : answer ≡ read_ack message

pub record AckFit (a : Ack) : Type 0 where
  pub source : a.source < 65536
  pub share : a.share < 4294967296
  pub pad : a.pad < 256
  pub stream : a.stream < 256
  pub uncompressed : a.uncompressed < 65536
  pub compression : a.compression < 256
  pub compressed : a.compressed < 65536
  pub frame : a.frame < 4294967296

-- write_ack
pub record WriteAck : Type 0 where
  pub ack : Ack
  pub fit : AckFit ack
  pub out : List ℕ
  pub out' : List ℕ
  pub answer : Result ℕ Refusal
  pub promise : Wrote (ack_fault ack.version (length out)) (ack_of ack) out out' answer
