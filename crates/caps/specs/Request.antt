-- 02's request Twelve over the calls, sentence by sentence: what a caller can rely on. `request_twelve` (specs/laws/Request) proves all of it.
-- "Sessions and frames are unaffected": nothing of them is named in this crate, a reader lends no memory, a writer its output alone.
-- (01 is this project's scope document, 02 its change requests, 001 is MS-RDPRFX: README, "What 01 is".)
use Rattle.std.specs.Prelude.{ℕ, ◌+◌, ◌*◌, ◌%◌, ◌≤◌, ◌<◌, ◌≡◌, Bool, true, List, ◌∷◌, ◌++◌, ◌≢◌, eqb, length, take, Result, Ok, Err}
use Rattle.whole.specs.Row.{◌⇒◌∣◌}
use Rattle.wire.specs.Le.{bytes16, bytes32}
use Rattle.wire.specs.Refusal.{refusal_number, refusal_of, number_of}
use Rattle.wire.specs.declared.Refusal.{Refusal}
use Rattle.wire.specs.declared.Refusal.TheVariants.{Cut, Length, Field, TooBig}
use Rattle.caps.specs.Walk.{Stopped, walk, Both}
use Rattle.caps.specs.Caps.{entry, entry_of, capset, capset_of, block, block_of, container, caps_of, read_caps, GoodEntry, GoodIn, GoodCaps}
use Rattle.caps.specs.AckCap.{ack_cap, ack_cap_of, read_ack_cap, GoodAckCap}
use Rattle.caps.specs.Ack.{ack, ack_of, read_ack, GoodAck}
use Rattle.caps.specs.Calls.{sent_by, ReadCaps, WriteCaps, fields_of, ReadAckCap, WriteAckCap, ReadAck, WriteAck}
use Rattle.caps.specs.declared.Entry.{Entry}
use Rattle.caps.specs.declared.Caps.{Caps}
use Rattle.caps.specs.declared.Ack.{Ack}

-- the numbers that a reader can say: "fixed fields refuse with 5, lengths with 4, missing bytes with 1"; "at most two entries, else 6"
unfoldable pub read_number : ℕ → Bool
read_number n =
    eqb n 1 ⇒ true ∣
    eqb n 4 ⇒ true ∣
    eqb n 5 ⇒ true ∣
    eqb n 6

-- of an acknowledgement, which has no entries
unfoldable pub ack_says : ℕ → Bool
ack_says n =
    eqb n 1 ⇒ true ∣
    eqb n 4 ⇒ true ∣
    eqb n 5

-- bytes that were read, written again: all of them, and the same
pub record Again (m out' : List ℕ) (w : Result ℕ Refusal) : Type 0 where
  pub done : w ≡ Ok (length m)
  pub sent : sent_by w out' ≡ m

-- ---- what holds of each of the three messages: R and W are calls of its reader and its writer, F its fields

pub record Kept
    {R W F : Type 0}
    (message : R → List ℕ) (answer : R → Result F Refusal) (fields : W → F) (out out' : W → List ℕ) (wrote : W → Result ℕ Refusal)
    (there : F → F) (says : ℕ → Bool)
    : Type 0 where
  -- one answer alone, and one content of lent memory, meet the promise of a call
  pub one_reading : (r s : R) → message r ≡ message s → answer r ≡ answer s
  pub one_writing : (w v : W) → fields w ≡ fields v → out w ≡ out v → (wrote w ≡ wrote v) × (out' w ≡ out' v)
  -- "Writing then reading gives the fields back"
  pub back : (w : W) (r : R) → number_of (wrote w) ≡ 0 → message r ≡ sent_by (wrote w) (out' w) → answer r ≡ Ok (there (fields w))
  -- "any accepted bytes, written again from their fields, come out the same, flags that aren't judged included"
  pub same : (r : R) (w : W) → answer r ≡ Ok (fields w) → length (message r) ≤ length (out w) → Again (message r) (out' w) (wrote w)
  -- "missing bytes with 1": whatever is accepted is cut by every end before its own
  pub cut : (r s : R) (a : F) (k : ℕ) → answer r ≡ Ok a → k < length (message r) → message s ≡ take k (message r) → answer s ≡ Err Cut
  -- "lengths with 4": bytes after it
  pub longer : (r s : R) (a : F) (b : ℕ) (more : List ℕ) → answer r ≡ Ok a → message s ≡ message r ++ b ∷ more → answer s ≡ Err Length
  -- and no other numbers
  pub numbers : (r : R) (refusal : Refusal) → answer r ≡ Err refusal → says (refusal_number refusal) ≡ true

-- ---- "Each layout's fixed fields refuse with 5, lengths with 4, .. in wire order": where the fields before it are as they should be, a field that is not is
-- refused, whatever follows

pub record EntryRefuses : Type 0 where
  pub version : (v : ℕ) (more : List ℕ) → v < 65536 → v ≢ 0x0100 → walk entry (bytes16 v ++ more) ≡ Stopped 5
  pub tile-size : (v : ℕ) (more : List ℕ) → v < 65536 → v ≢ 0x0040 → walk entry (bytes16 0x0100 ++ (bytes16 v ++ more)) ≡ Stopped 5
  pub colour :
      (flags v : ℕ) (more : List ℕ) → flags < 256 → v < 256 → v ≢ 1 → walk entry (bytes16 0x0100 ++ (bytes16 0x0040 ++ (flags ∷ v ∷ more))) ≡ Stopped 5
  pub transform :
      (flags v : ℕ) (more : List ℕ) → flags < 256 → v < 256 → v ≢ 1 → walk entry (bytes16 0x0100 ++ (bytes16 0x0040 ++ (flags ∷ 1 ∷ v ∷ more))) ≡ Stopped 5
  pub entropy :
      (flags v : ℕ) (more : List ℕ) → flags < 256 → v < 256 → v ≢ 1 → v ≢ 4 →
      walk entry (bytes16 0x0100 ++ (bytes16 0x0040 ++ (flags ∷ 1 ∷ 1 ∷ v ∷ more))) ≡ Stopped 5

-- by capsLength, which its blockLen agrees with
pub record CapsetRefuses : Type 0 where
  pub block_type : (size v : ℕ) (more : List ℕ) → v < 65536 → v ≢ 0xCBC1 → walk (capset (8 + size)) (bytes16 v ++ more) ≡ Stopped 5
  pub caps_length :
      (capsLength size : ℕ) (more : List ℕ) → size < 4294967296 → capsLength ≢ 8 + size →
      walk (capset capsLength) (bytes16 0xCBC1 ++ (bytes32 size ++ more)) ≡ Stopped 4
  pub codec :
      (size v : ℕ) (more : List ℕ) → size < 4294967296 → v < 256 → v ≢ 1 →
      walk (capset (8 + size)) (bytes16 0xCBC1 ++ (bytes32 size ++ (v ∷ more))) ≡ Stopped 5
  pub capset_type :
      (size v : ℕ) (more : List ℕ) → size < 4294967296 → v < 65536 → v ≢ 0xCFC0 →
      walk (capset (8 + size)) (bytes16 0xCBC1 ++ (bytes32 size ++ (1 ∷ (bytes16 v ++ more)))) ≡ Stopped 5
  pub entry_length :
      (size n v : ℕ) (more : List ℕ) → size < 4294967296 → n ≤ 2 → v < 65536 → v ≢ 8 →
      walk (capset (8 + size)) (bytes16 0xCBC1 ++ (bytes32 size ++ (1 ∷ (bytes16 0xCFC0 ++ (bytes16 n ++ (bytes16 v ++ more)))))) ≡ Stopped 4
  pub block_length :
      (size n : ℕ) (more : List ℕ) → size < 4294967296 → n ≤ 2 → size ≢ 13 + 8 * n →
      walk (capset (8 + size)) (bytes16 0xCBC1 ++ (bytes32 size ++ (1 ∷ (bytes16 0xCFC0 ++ (bytes16 n ++ (bytes16 8 ++ more)))))) ≡ Stopped 4
  -- and what an entry refuses
  pub first_entry :
      (n k : ℕ) (more : List ℕ) → 1 ≤ n → n ≤ 2 → walk entry more ≡ Stopped k →
      walk (capset (21 + 8 * n)) (bytes16 0xCBC1 ++ (bytes32 (13 + 8 * n) ++ (1 ∷ (bytes16 0xCFC0 ++ (bytes16 n ++ (bytes16 8 ++ more)))))) ≡ Stopped k
  pub second_entry :
      (e : Entry) (k : ℕ) (more : List ℕ) → GoodEntry e → walk entry more ≡ Stopped k →
      walk (capset 37) (bytes16 0xCBC1 ++ (bytes32 29 ++ (1 ∷ (bytes16 0xCFC0 ++ (bytes16 2 ++ (bytes16 8 ++ (entry_of e ++ more))))))) ≡ Stopped k

pub record BlockRefuses : Type 0 where
  pub block_type : (capsLength v : ℕ) (more : List ℕ) → v < 65536 → v ≢ 0xCBC0 → walk (block capsLength) (bytes16 v ++ more) ≡ Stopped 5
  pub block_length :
      (capsLength v : ℕ) (more : List ℕ) → v < 4294967296 → v ≢ 8 → walk (block capsLength) (bytes16 0xCBC0 ++ (bytes32 v ++ more)) ≡ Stopped 4
  pub capsets :
      (capsLength v : ℕ) (more : List ℕ) → v < 65536 → v ≢ 1 →
      walk (block capsLength) (bytes16 0xCBC0 ++ (bytes32 8 ++ (bytes16 v ++ more))) ≡ Stopped 5
  -- and what the capset refuses
  pub inside :
      (capsLength k : ℕ) (more : List ℕ) → walk (capset capsLength) more ≡ Stopped k →
      walk (block capsLength) (bytes16 0xCBC0 ++ (bytes32 8 ++ (bytes16 1 ++ more))) ≡ Stopped k

pub record ContainerRefuses : Type 0 where
  pub length :
      (size flags capsLength : ℕ) (more : List ℕ) → size < 4294967296 → flags < 4294967296 → capsLength < 4294967296 → size ≢ 12 + capsLength →
      read_caps (bytes32 size ++ (bytes32 flags ++ (bytes32 capsLength ++ more))) ≡ Err Length
  -- and what the block refuses
  pub inside :
      (flags capsLength k : ℕ) (more : List ℕ) → flags < 4294967296 → 12 + capsLength < 4294967296 → walk (block capsLength) more ≡ Stopped k →
      read_caps (bytes32 (12 + capsLength) ++ (bytes32 flags ++ (bytes32 capsLength ++ more))) ≡ Err (refusal_of k)
  -- and the number said is the one that the block stopped with
  pub inside_number :
      (flags capsLength k : ℕ) (more : List ℕ) → flags < 4294967296 → 12 + capsLength < 4294967296 → walk (block capsLength) more ≡ Stopped k →
      number_of (read_caps (bytes32 (12 + capsLength) ++ (bytes32 flags ++ (bytes32 capsLength ++ more)))) ≡ k

pub record AckCapRefuses : Type 0 where
  pub type : (v : ℕ) (more : List ℕ) → v < 65536 → v ≢ 0x001E → read_ack_cap (bytes16 v ++ more) ≡ Err Field
  pub length : (v : ℕ) (more : List ℕ) → v < 65536 → v ≢ 8 → read_ack_cap (bytes16 0x001E ++ (bytes16 v ++ more)) ≡ Err Length

pub record AckRefuses : Type 0 where
  pub total_length : (v : ℕ) (more : List ℕ) → v < 65536 → v ≢ 22 → read_ack (bytes16 v ++ more) ≡ Err Length
  pub type : (v : ℕ) (more : List ℕ) → v < 65536 → v % 16 ≢ 7 → read_ack (bytes16 22 ++ (bytes16 v ++ more)) ≡ Err Field
  pub second_type :
      (a : Ack) (v : ℕ) (more : List ℕ) → GoodAck a → v < 256 → v ≢ 0x38 →
      read_ack (bytes16 22 ++ (bytes16 (7 + 16 * a.version) ++ (bytes16 a.source ++ (bytes32 a.share ++ (a.pad ∷ a.stream ∷
      (bytes16 a.uncompressed ++ (v ∷ more))))))) ≡ Err Field

pub record RequestTwelve : Type 0 where
  -- "the client capability container, .. the frame acknowledge capability and the frame acknowledge message"
  pub of_container : Kept {R = ReadCaps} {W = WriteCaps} {F = Caps}
      (λ r. r.message) (λ r. r.answer) (λ w. w.caps) (λ w. w.out) (λ w. w.out') (λ w. w.answer) fields_of read_number
  pub of_ack_cap : Kept {R = ReadAckCap} {W = WriteAckCap} {F = ℕ}
      (λ r. r.message) (λ r. r.answer) (λ w. w.count) (λ w. w.out) (λ w. w.out') (λ w. w.answer) (λ n. n) ack_says
  pub of_ack : Kept {R = ReadAck} {W = WriteAck} {F = Ack}
      (λ r. r.message) (λ r. r.answer) (λ w. w.ack) (λ w. w.out) (λ w. w.out') (λ w. w.answer) (λ a. a) ack_says
  -- "its capset and its entries", and every layout by itself: its reading and its writing are inverse, both ways
  pub entry_both : Both entry GoodEntry entry_of
  pub capset_both : (capsLength : ℕ) → Both (capset capsLength) (GoodIn capsLength) capset_of
  pub block_both : (capsLength : ℕ) → Both (block capsLength) (GoodIn capsLength) block_of
  pub container_both : Both container GoodCaps caps_of
  pub ack_cap_both : Both ack_cap GoodAckCap ack_cap_of
  pub ack_both : Both ack GoodAck ack_of
  pub entry_refuses : EntryRefuses
  pub capset_refuses : CapsetRefuses
  pub block_refuses : BlockRefuses
  pub container_refuses : ContainerRefuses
  pub ack_cap_refuses : AckCapRefuses
  pub ack_refuses : AckRefuses
  -- "at most two entries, else 6": read, with lengths that agree with each other, whatever they say and whatever follows
  pub too_many :
      (flags size n : ℕ) (more : List ℕ)
      → flags < 4294967296
      → 20 + size < 4294967296
      → n < 65536
      → 2 < n
      → read_caps (bytes32 (20 + size) ++ (bytes32 flags ++ (bytes32 (8 + size) ++ (bytes16 0xCBC0 ++ (bytes32 8 ++ (bytes16 1 ++
      (bytes16 0xCBC1 ++ (bytes32 size ++ (1 ∷ (bytes16 0xCFC0 ++ (bytes16 n ++ more)))))))))))
      ≡ Err TooBig
  -- and written
  pub too_many_written : (w : WriteCaps) → 2 < w.caps.n → w.answer ≡ Err TooBig
