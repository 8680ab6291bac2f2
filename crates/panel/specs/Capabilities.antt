-- The six calls of capabilities and acknowledgements as a C program meets them (02, request Twelve): the number is returned, what is read and what is said
-- is stored behind references, the output is lent. All by the definitions that the calls of `caps` cite.
-- (01 is this project's scope document, 02 its change requests, 001 is MS-RDPRFX: README, "What 01 is".)
use Rattle.std.specs.Prelude.{ℕ, ◌≡◌, List, [], ◌∷◌, length, get_or}
use Rattle.wire.specs.Refusal.{number_of}
use Rattle.caps.specs.Caps.{entries_over, caps_with, read_caps, caps_fields, caps_of, caps_fault}
use Rattle.caps.specs.AckCap.{read_ack_cap, ack_cap_count, ack_cap_of, ack_cap_fault}
use Rattle.caps.specs.Ack.{read_ack, ack_fields, ack_of, ack_fault}
use Rattle.caps.specs.declared.Caps.{Caps}
use Rattle.caps.specs.declared.Ack.{Ack}
use Rattle.panel.specs.Edge.{WriterCall}

-- ---- the container; four bytes are two entries, flags and entropyBits of each

abbrev pub entry_bytes : Caps → List ℕ
entry_bytes c = c.first.flags ∷ c.first.mode ∷ c.second.flags ∷ c.second.mode ∷ []

pub record ReadCapsCall (m : List ℕ) (flags n : ℕ) (entries : List ℕ) (number : ℕ) : Type 0 where
  pub said : number ≡ number_of (read_caps m)
  pub flags_are : flags ≡ (caps_fields (read_caps m)).flags
  pub n_is : n ≡ (caps_fields (read_caps m)).n
  pub entries_are : entries ≡ entry_bytes (caps_fields (read_caps m))

abbrev pub caps_from : ℕ → ℕ → List ℕ → Caps
caps_from flags n es =
    caps_with flags (entries_over n (record { flags = get_or es 0 0; mode = get_or es 1 0 }) (record { flags = get_or es 2 0; mode = get_or es 3 0 }))

abbrev pub WriteCapsCall : ℕ → ℕ → List ℕ → List ℕ → List ℕ → ℕ → ℕ → Type 0
WriteCapsCall flags n es out out' size number = WriterCall (caps_fault (caps_from flags n es) (length out)) (caps_of (caps_from flags n es)) out out' size number

-- ---- the frame acknowledge capability

pub record ReadAckCapCall (m : List ℕ) (count number : ℕ) : Type 0 where
  pub said : number ≡ number_of (read_ack_cap m)
  pub count_is : count ≡ ack_cap_count (read_ack_cap m)

abbrev pub WriteAckCapCall : ℕ → List ℕ → List ℕ → ℕ → ℕ → Type 0
WriteAckCapCall count out out' size number = WriterCall (ack_cap_fault (length out)) (ack_cap_of count) out out' size number

-- ---- the frame acknowledge message; its nine numbers in wire order

abbrev pub numbers_of : Ack → List ℕ
numbers_of a =
    a.version ∷ a.source ∷ a.share ∷ a.pad ∷ a.stream ∷ a.uncompressed ∷ a.compression ∷ a.compressed ∷ a.frame ∷ []

pub record ReadAckCall (m fields : List ℕ) (number : ℕ) : Type 0 where
  pub said : number ≡ number_of (read_ack m)
  pub fields_are : fields ≡ numbers_of (ack_fields (read_ack m))

abbrev pub ack_from : ℕ → ℕ → ℕ → ℕ → ℕ → ℕ → ℕ → ℕ → ℕ → Ack
ack_from version source share pad stream uncompressed compression compressed frame = record {
  version = version;
  source = source;
  share = share;
  pad = pad;
  stream = stream;
  uncompressed = uncompressed;
  compression = compression;
  compressed = compressed;
  frame = frame;
}

abbrev pub WriteAckCall : ℕ → ℕ → ℕ → ℕ → ℕ → ℕ → ℕ → ℕ → ℕ → List ℕ → List ℕ → ℕ → ℕ → Type 0
WriteAckCall version source share pad stream uncompressed compression compressed frame out out' size number =
    WriterCall (ack_fault version (length out)) (ack_of (ack_from version source share pad stream uncompressed compression compressed frame)) out out' size number
