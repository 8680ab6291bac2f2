-- Our own headers read back: from any record whatever, the four header calls on the four blocks answer 0 and end in (4, w, h, et) on
-- the glass that a sync keeps.
-- (01 is this project's scope document, 02 its change requests, 001 is MS-RDPRFX: README, "What 01 is".)
use Rattle.std.specs.Prelude.{ℕ, ◌+◌, ◌*◌, ◌%◌, ◌/◌, ◌≤◌, ◌<◌, ◌≡◌, refl, true, ◌⊎◌, List, [], ◌∷◌, length, get_or, take, drop, Result, Ok}
use Rattle.std.proofs.Common.{sym, ◌∙◌, inl, inr, arith}
use Rattle.wire.specs.Le.{le16, le32, bytes16, bytes32}
use Rattle.wire.specs.Mode.{is_mode}
use Rattle.wire.specs.Refusal.{number_of, count_of}
use Rattle.wire.specs.laws.Wrote.{wrote_bytes}
use Rattle.wire.specs.declared.Refusal.{Refusal}
use Rattle.whole.specs.Row.{◌!◌⨾◌, ◌⇒◌∣◌, ◌⨟◌}
use Rattle.session.specs.declared.Session.{Session}
use Rattle.session.specs.Header.{record_of, size_good, due, size_of, sync_judge, versions_judge, channels_judge, properties_good, context_judge, et_of}
use Rattle.session.specs.Header.{sync_fault}
use Rattle.session.specs.Header.{versions_fault, channels_fault, context_fault, field_fault, head_judge, header_fault, kept_glass, record_after, header_reading}
use Rattle.session.specs.laws.Header.{allowed, glass_kept, made_1, made_2, made_3}
use Rattle.headers.specs.Headers.{sync_of, versions_of, channels_of, properties_of, context_of, headers_of, HeadersWritten}
use Rattle.headers.specs.laws.Headers.{writable}

-- the blocks, cut out of the 47 bytes
block_1 : (w h et : ℕ) → take 12 (headers_of w h et) ≡ sync_of
unfolding headers_of sync_of versions_of channels_of context_of bytes16 bytes32
block_1 w h et = refl

block_2 : (w h et : ℕ) → take 10 (drop 12 (headers_of w h et)) ≡ versions_of
unfolding headers_of sync_of versions_of channels_of context_of bytes16 bytes32
block_2 w h et = refl

block_3 : (w h et : ℕ) → take 12 (drop 22 (headers_of w h et)) ≡ channels_of w h
unfolding headers_of sync_of versions_of channels_of context_of bytes16 bytes32
block_3 w h et = refl

block_4 : (w h et : ℕ) → take 13 (drop 34 (headers_of w h et)) ≡ context_of et
unfolding headers_of sync_of versions_of channels_of context_of bytes16 bytes32
block_4 w h et = refl

-- each block, taken
sync_taken : (s : Session) → header_reading s sync_of ≡ Ok (record_of (kept_glass s.glass) 1 0 0 0)
unfolding sync_of bytes16 bytes32 le16 le32 ◌!◌⨾◌ ◌⇒◌∣◌ ◌⨟◌ due size_of sync_judge sync_fault field_fault head_judge header_fault record_after header_reading
sync_taken s = refl

versions_taken : (g : ℕ) → g ≤ 1 → header_reading (record_of g 1 0 0 0) versions_of ≡ Ok (record_of g 2 0 0 0)
unfolding versions_of bytes16 bytes32 le16 le32 ◌!◌⨾◌ ◌⇒◌∣◌ ◌⨟◌ due size_of versions_judge versions_fault field_fault head_judge header_fault record_after
    header_reading
versions_taken g l = rw (made_1 g l)

channels_by :
    (g : ℕ) → g ≤ 1 → (m : List ℕ) (w h : ℕ) → length m ≡ 12 → le16 m 0 ≡ 0xCCC2 → le32 m 2 ≡ 12 → get_or m 6 0 ≡ 1 → get_or m 7 0 ≡ 0 → le16 m 8 ≡ w →
    le16 m 10 ≡ h →
    size_good w h ≡ true → header_reading (record_of g 2 0 0 0) m ≡ Ok (record_of g 3 w h 0)
unfolding ◌!◌⨾◌ ◌⇒◌∣◌ ◌⨟◌ due size_of channels_judge channels_fault field_fault head_judge header_fault record_after header_reading
channels_by g k m w h l t n a b x y z = rw (l, t, n, a, b, x, y, z, made_2 g k)

two_bytes : (v : ℕ) → v < 65536 → v % 256 + 256 * (v / 256 % 256) ≡ v
two_bytes v h = omega arith

channels_taken : (g w h : ℕ) → g ≤ 1 → w < 65536 → h < 65536 → size_good w h ≡ true →
    header_reading (record_of g 2 0 0 0) (channels_of w h) ≡ Ok (record_of g 3 w h 0)
unfolding channels_of bytes16 bytes32 le16 le32
channels_taken g w h l p q z = channels_by g l (channels_of w h) w h refl refl refl refl refl (two_bytes w p) (two_bytes h q) z

context_1 : (g w h : ℕ) → g ≤ 1 → size_good w h ≡ true → header_reading (record_of g 3 w h 0) (context_of 1) ≡ Ok (record_of g 4 w h 1)
unfolding context_of properties_of bytes16 bytes32 le16 le32 ◌!◌⨾◌ ◌⇒◌∣◌ ◌⨟◌ is_mode due size_of properties_good context_judge et_of context_fault field_fault
    head_judge header_fault record_after header_reading
context_1 g w h l z = rw (made_3 g w h l z)

context_4 : (g w h : ℕ) → g ≤ 1 → size_good w h ≡ true → header_reading (record_of g 3 w h 0) (context_of 4) ≡ Ok (record_of g 4 w h 4)
unfolding context_of properties_of bytes16 bytes32 le16 le32 ◌!◌⨾◌ ◌⇒◌∣◌ ◌⨟◌ is_mode due size_of properties_good context_judge et_of context_fault field_fault
    head_judge header_fault record_after header_reading
context_4 g w h l z = rw (made_3 g w h l z)

-- the four calls on 47 bytes, one after the other: each is taken, and leaves the record that the next one starts from
pub record AllTaken (s : Session) (w h et : ℕ) (m : List ℕ) : Type 0 where
  pub one : header_reading s (take 12 m) ≡ Ok (record_of (kept_glass s.glass) 1 0 0 0)
  pub two : header_reading (record_of (kept_glass s.glass) 1 0 0 0) (take 10 (drop 12 m)) ≡ Ok (record_of (kept_glass s.glass) 2 0 0 0)
  pub three : header_reading (record_of (kept_glass s.glass) 2 0 0 0) (take 12 (drop 22 m)) ≡ Ok (record_of (kept_glass s.glass) 3 w h 0)
  pub four : header_reading (record_of (kept_glass s.glass) 3 w h 0) (take 13 (drop 34 m)) ≡ Ok (record_of (kept_glass s.glass) 4 w h et)

context_taken : (g w h et : ℕ) → g ≤ 1 → size_good w h ≡ true → (et ≡ 1) ⊎ (et ≡ 4) →
    header_reading (record_of g 3 w h 0) (context_of et) ≡ Ok (record_of g 4 w h et)
context_taken g w h et l z (inl q) = rw q (context_1 g w h l z)
context_taken g w h et l z (inr q) = rw q (context_4 g w h l z)

pub headers_read_back : (s : Session) (w h et : ℕ) → size_good w h ≡ true → is_mode et ≡ true → AllTaken s w h et (headers_of w h et)
headers_read_back s w h et z f =
    let k = allowed w h et z f in
    let g = kept_glass s.glass in
    let l = glass_kept s.glass in
    record {
      one = rw (block_1 w h et) (sync_taken s);
      two = rw (block_2 w h et) (versions_taken g l);
      three = rw (block_3 w h et) (channels_taken g w h l (omega (arith, k.most_w)) (omega (arith, k.most_h)) z);
      four = rw (block_4 w h et) (context_taken g w h et l z k.mode);
    }

-- the same of what the header writer has written, where it is done
pub our_headers : (s : Session) (w h et : ℕ) (out out' : List ℕ) (r : Result ℕ Refusal) → HeadersWritten w h et out out' r → number_of r ≡ 0 →
    AllTaken s w h et (take (count_of r) out')
our_headers s w h et out out' r wrote e =
    let g = writable w h et (length out) (sym e ∙ wrote.number) in
    rw (wrote_bytes _ (headers_of w h et) out out' r wrote e) (headers_read_back s w h et g.size g.mode)

-- 01's "Headers for 64 x 64, RLGR3", byte for byte
pub our_64 : headers_of 64 64 4 ≡
    0xC0 ∷ 0xCC ∷ 0x0C ∷ 0x00 ∷ 0x00 ∷ 0x00 ∷ 0xCA ∷ 0xAC ∷ 0xCC ∷ 0xCA ∷ 0x00 ∷ 0x01
    ∷ 0xC1 ∷ 0xCC ∷ 0x0A ∷ 0x00 ∷ 0x00 ∷ 0x00 ∷ 0x01 ∷ 0x01 ∷ 0x00 ∷ 0x01
    ∷ 0xC2 ∷ 0xCC ∷ 0x0C ∷ 0x00 ∷ 0x00 ∷ 0x00 ∷ 0x01 ∷ 0x00 ∷ 0x40 ∷ 0x00 ∷ 0x40 ∷ 0x00
    ∷ 0xC3 ∷ 0xCC ∷ 0x0D ∷ 0x00 ∷ 0x00 ∷ 0x00 ∷ 0x01 ∷ 0xFF ∷ 0x00 ∷ 0x40 ∷ 0x00 ∷ 0x28 ∷ 0x28 ∷ []
unfolding headers_of sync_of versions_of channels_of context_of properties_of bytes16 bytes32
our_64 = refl
