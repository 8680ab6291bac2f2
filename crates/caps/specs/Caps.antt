-- The client capability container of 001, 2.2.1.1 to 2.2.1.1.1.1.1: its four layouts, each as a table that is walked and as bytes.
-- 02, Twelve: "Each layout's fixed fields refuse with 5, lengths with 4, missing bytes with 1, in wire order; at most two entries, else 6."
-- (01 is this project's scope document, 02 its change requests, 001 is MS-RDPRFX: README, "What 01 is".)
use Rattle.std.specs.Prelude.{ℕ, ◌+◌, ◌*◌, ◌<◌, ◌≡◌, Bool, true, false, List, [], ◌∷◌, ◌++◌, leb, eqb, Result, Ok, Err}
use Rattle.whole.specs.Row.{◌!◌⨾◌, ◌⇒◌∣◌}
use Rattle.wire.specs.Le.{bytes16, bytes32}
use Rattle.wire.specs.Mode.{is_mode}
use Rattle.caps.specs.Walk.{Layout, gives, refuse, field, ◌then◌, walk, answered}
use Rattle.caps.specs.declared.walk.Width.TheVariants.{One, Two, Four}
use Rattle.caps.specs.declared.Entry.{Entry}
pub use Rattle.caps.specs.declared.Entries.{Entries}
use Rattle.caps.specs.declared.Caps.{Caps}
use Rattle.wire.specs.declared.Refusal.{Refusal}

-- ---- an entry, TS_RFX_ICAP: "the set of codec properties that the decoder supports"

-- flags are kept and not judged; entropyBits is RLGR1 or RLGR3
unfoldable pub entry : Layout Entry
entry =
    field Two λ version. eqb version 0x0100 ! refuse 5 ⨾
    field Two λ tileSize. eqb tileSize 0x0040 ! refuse 5 ⨾
    field One λ flags.
    field One λ colConvBits. eqb colConvBits 1 ! refuse 5 ⨾
    field One λ transformBits. eqb transformBits 1 ! refuse 5 ⨾
    field One λ entropyBits. is_mode entropyBits ! refuse 5 ⨾
    gives (record { flags = flags; mode = entropyBits })

unfoldable pub entry_of : Entry → List ℕ
entry_of e = bytes16 0x0100 ++ (bytes16 0x0040 ++ (e.flags ∷ 1 ∷ 1 ∷ e.mode ∷ []))

-- ---- the entries of a capset: how many, and the two places; an entry that is not there is 0 0

abbrev pub entries_over : ℕ → Entry → Entry → Entries
entries_over n first second = record { n = n; first = first; second = second }

abbrev pub absent : Entry
absent = record { flags = 0; mode = 0 }

abbrev pub no_entry : Entries
no_entry = entries_over 0 absent absent

abbrev pub one_entry : Entry → Entries
one_entry e = entries_over 1 e absent

abbrev pub two_entries : Entry → Entry → Entries
two_entries e f = entries_over 2 e f

-- as many as numIcaps says, which is 2 at most
unfoldable pub entries : ℕ → Layout Entries
entries n =
    eqb n 0 ⇒ gives no_entry ∣
    eqb n 1 ⇒ (entry then λ e. gives (one_entry e)) ∣
    (entry then λ e. entry then λ f. gives (two_entries e f))

unfoldable pub entries_of : Entries → List ℕ
entries_of s =
    eqb s.n 0 ⇒ [] ∣
    eqb s.n 1 ⇒ entry_of s.first ∣
    (entry_of s.first ++ entry_of s.second)

-- ---- the capset, TS_RFX_CAPSET. capsLength, which speaks of it, is judged with its block_len, and that with numIcaps, once icapLen is 8

unfoldable pub capset : ℕ → Layout Entries
capset capsLength =
    field Two λ blockType. eqb blockType 0xCBC1 ! refuse 5 ⨾
    field Four λ block_len. eqb capsLength (8 + block_len) ! refuse 4 ⨾
    field One λ codecId. eqb codecId 1 ! refuse 5 ⨾
    field Two λ capsetType. eqb capsetType 0xCFC0 ! refuse 5 ⨾
    field Two λ numIcaps. leb numIcaps 2 ! refuse 6 ⨾
    field Two λ icapLen. eqb icapLen 8 ! refuse 4 ⨾ eqb block_len (13 + 8 * numIcaps) ! refuse 4 ⨾
    entries numIcaps

unfoldable pub capset_of : Entries → List ℕ
capset_of s =
    bytes16 0xCBC1 ++ (bytes32 (13 + 8 * s.n) ++ (1 ∷ (bytes16 0xCFC0 ++ (bytes16 s.n ++ (bytes16 8 ++ entries_of s)))))

-- ---- TS_RFX_CAPS, the block round the capset: its block_len counts "the blockType, block_len, and numCapsets fields", and not the capset

unfoldable pub block : ℕ → Layout Entries
block capsLength =
    field Two λ blockType. eqb blockType 0xCBC0 ! refuse 5 ⨾
    field Four λ block_len. eqb block_len 8 ! refuse 4 ⨾
    field Two λ numCapsets. eqb numCapsets 1 ! refuse 5 ⨾
    capset capsLength

unfoldable pub block_of : Entries → List ℕ
block_of s = bytes16 0xCBC0 ++ (bytes32 8 ++ (bytes16 1 ++ capset_of s))

-- ---- the container, TS_RFX_CLNT_CAPS_CONTAINER: captureFlags are kept and not judged

abbrev pub caps_with : ℕ → Entries → Caps
caps_with flags s = record { flags = flags; n = s.n; first = s.first; second = s.second }

abbrev pub entries_in : Caps → Entries
entries_in c = entries_over c.n c.first c.second

unfoldable pub container : Layout Caps
container =
    field Four λ length.
    field Four λ captureFlags.
    field Four λ capsLength. eqb length (12 + capsLength) ! refuse 4 ⨾
    block capsLength then λ s.
    gives (caps_with captureFlags s)

unfoldable pub caps_of : Caps → List ℕ
caps_of c = bytes32 (33 + 8 * c.n) ++ (bytes32 c.flags ++ (bytes32 (21 + 8 * c.n) ++ block_of (entries_in c)))

-- ---- what the reader answers

unfoldable pub read_caps : List ℕ → Result Caps Refusal
read_caps m = answered (walk container m)

-- its fields, of which a refusal gives none: all are 0
abbrev pub caps_fields : Result Caps Refusal → Caps
caps_fields (Ok c) = c
caps_fields (Err refusal) = caps_with 0 no_entry

-- ---- what the writer refuses, in wire order: "at most two entries, else 6"; an entropyBits that is neither of the two is 5; 13 is room

-- those of the entries that are there
unfoldable pub modes_good : Entries → Bool
modes_good s =
    eqb s.n 0 ⇒ true ∣
    is_mode s.first.mode ! false ⨾
    eqb s.n 1 ⇒ true ∣
    is_mode s.second.mode

unfoldable pub caps_fault : Caps → ℕ → ℕ
caps_fault c room =
    leb c.n 2 ! 6 ⨾
    modes_good (entries_in c) ! 5 ⨾
    leb (33 + 8 * c.n) room ! 13 ⨾
    0

-- ---- the fields that are written: each fits its place, at most two entries, each of a mode that there is, and 0 0 past them

pub record GoodEntry (e : Entry) : Type 0 where
  pub flags : e.flags < 256
  pub mode : is_mode e.mode ≡ true

pub data GoodEntries : Entries → Type 0 where
  none : GoodEntries no_entry
  one : (e : Entry) → GoodEntry e → GoodEntries (one_entry e)
  two : (e f : Entry) → GoodEntry e → GoodEntry f → GoodEntries (two_entries e f)

-- within the length that speaks of them
abbrev pub GoodIn : ℕ → Entries → Type 0
GoodIn capsLength s = GoodEntries s × (capsLength ≡ 21 + 8 * s.n)

pub record GoodCaps (c : Caps) : Type 0 where
  pub flags : c.flags < 4294967296
  pub entries : GoodEntries (entries_in c)
