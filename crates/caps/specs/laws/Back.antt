-- Every layout both ways: what is written is read back, and what is read is written again, byte for byte.
-- Assumes nothing.
use Rattle.std.specs.Prelude.{ℕ, zero, suc, ◌+◌, ◌*◌, ◌/◌, ◌%◌, ◌<◌, ◌≤◌, ◌≡◌, refl, true, List, ◌++◌, leb, eqb}
use Rattle.std.proofs.Common.{ap, sym, subst, ◌∙◌, append_assoc, ⊎_elim, arith, zero-add, eq-eqb, eqb-true, le-leb, leb-true}
use Rattle.std.proofs.Math.Nat.{mod-add-div, add-mul-div_left, add-mul-mod_self_left}
use Rattle.whole.specs.Row.{◌!◌⨾◌, ◌⇒◌∣◌}
use Rattle.wire.specs.Le.{bytes16, bytes32}
use Rattle.wire.specs.Mode.{is_mode}
use Rattle.wire.specs.laws.Mode.{mode_is}
use Rattle.caps.specs.Walk.{Bytes, spelled, gives, ◌then◌, Came, walk, Both}
use Rattle.caps.specs.laws.Walk.{bytes_behind, field_back, field_in, row_back, row_same, fixed_in, behind, gives_back, gives_same, then_back, then_same}
use Rattle.caps.specs.Caps.{entry, entry_of, Entries, no_entry, one_entry, two_entries, entries, entries_of, capset, capset_of, block, block_of, caps_with}
use Rattle.caps.specs.Caps.{entries_in, container, caps_of, GoodEntry, GoodEntries, none, one, two, GoodIn, GoodCaps}
use Rattle.caps.specs.AckCap.{ack_cap, ack_cap_of, GoodAckCap}
use Rattle.caps.specs.Ack.{ack, ack_of, GoodAck}
use Rattle.caps.specs.declared.walk.Width.TheVariants.{One, Two, Four}
use Rattle.caps.specs.declared.Entry.{Entry}
use Rattle.caps.specs.declared.Caps.{Caps}
use Rattle.caps.specs.declared.Ack.{Ack}

-- ---- an entry

mode_fits : (et : ℕ) → is_mode et ≡ true → et < 256
mode_fits et h = ⊎_elim (λ q. omega arith) (λ q. omega arith) (mode_is et h)

entry_back : (e : Entry) (rest : List ℕ) → GoodEntry e → walk entry (entry_of e ++ rest) ≡ Came e rest
unfolding entry entry_of spelled bytes16 ◌!◌⨾◌
entry_back e rest g =
    field_back Two _ 0x0100 _ (omega arith)
    ∙ field_back Two _ 0x0040 _ (omega arith)
    ∙ field_back One _ e.flags _ g.flags
    ∙ field_back One _ 1 _ (omega arith)
    ∙ field_back One _ 1 _ (omega arith)
    ∙ field_back One _ e.mode _ (mode_fits e.mode g.mode)
    ∙ row_back (is_mode e.mode) 5 _ rest g.mode
    ∙ gives_back e rest

entry_same : (m : List ℕ) (e : Entry) (rest : List ℕ) → Bytes m → walk entry m ≡ Came e rest → GoodEntry e × (m ≡ entry_of e ++ rest)
unfolding entry entry_of spelled bytes16
entry_same m e rest b w =
    fixed_in Two 0x0100 5 _ m e rest b w λ m₁ version b₁ w₁.
    fixed_in Two 0x0040 5 _ m₁ e rest b₁ w₁ λ m₂ tileSize b₂ w₂.
    field_in One _ m₂ e rest b₂ w₂ λ f m₃ flags f-fits b₃ w₃.
    fixed_in One 1 5 _ m₃ e rest b₃ w₃ λ m₄ colConvBits b₄ w₄.
    fixed_in One 1 5 _ m₄ e rest b₄ w₄ λ m₅ transformBits b₅ w₅.
    field_in One _ m₅ e rest b₅ w₅ λ k m₆ entropyBits k-fits b₆ w₆.
    let good = row_same (is_mode k) 5 _ m₆ e rest w₆ in
    let end = gives_same (record { flags = f; mode = k }) m₆ e rest good.1 in
    subst (λ (x : Entry). GoodEntry x × (m ≡ entry_of x ++ rest)) end.0 (
      record { flags = f-fits; mode = good.0 },
      behind (spelled Two 0x0100) version
          (behind (spelled Two 0x0040) tileSize
          (behind (spelled One f) flags
          (behind (spelled One 1) colConvBits
          (behind (spelled One 1) transformBits
          (behind (spelled One k) entropyBits end.1))))),
    )

pub entry_both : Both entry GoodEntry entry_of
entry_both = record { back = entry_back; same = entry_same }

-- ---- the entries

pub few : (s : Entries) → GoodEntries s → s.n ≤ 2
few _ none = omega arith
few _ (one e g) = omega arith
few _ (two e f g h) = omega arith

entries_back : (s : Entries) (rest : List ℕ) → GoodEntries s → walk (entries s.n) (entries_of s ++ rest) ≡ Came s rest
unfolding entries entries_of ◌⇒◌∣◌
entries_back _ rest none = gives_back no_entry rest
entries_back _ rest (one e g) = then_back entry _ (entry_of e ++ rest) e rest (entry_back e rest g) ∙ gives_back (one_entry e) rest
entries_back _ rest (two e f g h) =
    ap (walk (entries 2)) (append_assoc (entry_of e) (entry_of f) rest)
    ∙ then_back entry _ (entry_of e ++ (entry_of f ++ rest)) e (entry_of f ++ rest) (entry_back e (entry_of f ++ rest) g)
    ∙ then_back entry _ (entry_of f ++ rest) f rest (entry_back f rest h)
    ∙ gives_back (two_entries e f) rest

record Listed (n : ℕ) (m : List ℕ) (s : Entries) (rest : List ℕ) : Type 0 where
  good : GoodEntries s
  count : s.n ≡ n
  is : m ≡ entries_of s ++ rest

entries_same : (n : ℕ) (m : List ℕ) (s : Entries) (rest : List ℕ) → n ≤ 2 → Bytes m → walk (entries n) m ≡ Came s rest → Listed n m s rest
unfolding entries entries_of ◌⇒◌∣◌
entries_same zero m s rest h b w =
    let end = gives_same no_entry m s rest w in
    subst (λ (x : Entries). Listed 0 m x rest) end.0 (record { good = none; count = refl; is = end.1 })
entries_same (suc zero) m s rest h b w =
    let first = then_same entry (λ e. gives (one_entry e)) m s rest w in
    let e = entry_same m first.given first.mid b first.front in
    let end = gives_same (one_entry first.given) first.mid s rest first.on in
    subst (λ (x : Entries). Listed 1 m x rest) end.0
    (record { good = one first.given e.0; count = refl; is = behind (entry_of first.given) e.1 end.1 })
entries_same (suc (suc zero)) m s rest h b w =
    let first = then_same entry (λ e. entry then λ f. gives (two_entries e f)) m s rest w in
    let e = entry_same m first.given first.mid b first.front in
    let second = then_same entry (λ f. gives (two_entries first.given f)) first.mid s rest first.on in
    let f = entry_same first.mid second.given second.mid (bytes_behind (entry_of first.given) first.mid m b e.1) second.front in
    let end = gives_same (two_entries first.given second.given) second.mid s rest second.on in
    let is = behind (entry_of first.given) e.1 (behind (entry_of second.given) f.1 end.1) in
    subst (λ (x : Entries). Listed 2 m x rest) end.0 (record {
      good = two first.given second.given e.0 f.0;
      count = refl;
      is = is ∙ sym (append_assoc (entry_of first.given) (entry_of second.given) rest);
    })
entries_same (suc (suc (suc n))) m s rest h b w = absurd (omega arith)

-- ---- the capset, within the length that speaks of it

capset_back : (capsLength : ℕ) (s : Entries) (rest : List ℕ) → GoodIn capsLength s → walk (capset capsLength) (capset_of s ++ rest) ≡ Came s rest
unfolding capset capset_of spelled bytes16 bytes32 ◌!◌⨾◌
capset_back capsLength s rest g =
    let k = few s g.0 in
    field_back Two _ 0xCBC1 _ (omega arith)
    ∙ field_back Four _ (13 + 8 * s.n) _ (omega arith)
    ∙ row_back (eqb capsLength (8 + (13 + 8 * s.n))) 4 _ _ (eq-eqb capsLength (8 + (13 + 8 * s.n)) (omega (arith, g.1)))
    ∙ field_back One _ 1 _ (omega arith)
    ∙ field_back Two _ 0xCFC0 _ (omega arith)
    ∙ field_back Two _ s.n _ (omega arith)
    ∙ row_back (leb s.n 2) 6 _ _ (le-leb s.n 2 k)
    ∙ field_back Two _ 8 _ (omega arith)
    ∙ row_back (eqb (13 + 8 * s.n) (13 + 8 * s.n)) 4 _ _ (eq-eqb (13 + 8 * s.n) (13 + 8 * s.n) refl)
    ∙ entries_back s rest g.0

capset_same :
    (capsLength : ℕ) (m : List ℕ) (s : Entries) (rest : List ℕ) → Bytes m → walk (capset capsLength) m ≡ Came s rest →
    GoodIn capsLength s × (m ≡ capset_of s ++ rest)
unfolding capset capset_of spelled bytes16 bytes32
capset_same capsLength m s rest b w =
    fixed_in Two 0xCBC1 5 _ m s rest b w λ m₁ blockType b₁ w₁.
    field_in Four _ m₁ s rest b₁ w₁ λ size m₂ block_len size_fits b₂ w₂.
    let inside = row_same (eqb capsLength (8 + size)) 4 _ m₂ s rest w₂ in
    fixed_in One 1 5 _ m₂ s rest b₂ inside.1 λ m₃ codecId b₃ w₃.
    fixed_in Two 0xCFC0 5 _ m₃ s rest b₃ w₃ λ m₄ capsetType b₄ w₄.
    field_in Two _ m₄ s rest b₄ w₄ λ n m₅ numIcaps n-fits b₅ w₅.
    let at_most = row_same (leb n 2) 6 _ m₅ s rest w₅ in
    fixed_in Two 8 4 _ m₅ s rest b₅ at_most.1 λ m₆ icapLen b₆ w₆.
    let long = row_same (eqb size (13 + 8 * n)) 4 _ m₆ s rest w₆ in
    let e = entries_same n m₆ s rest (leb-true n 2 at_most.0) b₆ long.1 in
    let o : size ≡ 13 + 8 * s.n = eqb-true size (13 + 8 * n) long.0 ∙ ap (λ (k : ℕ). 13 + 8 * k) (sym e.count) in
    let l : capsLength ≡ 21 + 8 * s.n = omega (arith, eqb-true capsLength (8 + size) inside.0, o) in (
      (e.good, l),
      behind (spelled Two 0xCBC1) blockType
          (behind (spelled Four (13 + 8 * s.n)) (rw (← o) block_len)
          (behind (spelled One 1) codecId
          (behind (spelled Two 0xCFC0) capsetType
          (behind (spelled Two s.n) (rw e.count numIcaps)
          (behind (spelled Two 8) icapLen e.is))))),
    )

pub capset_both : (capsLength : ℕ) → Both (capset capsLength) (GoodIn capsLength) capset_of
capset_both capsLength = record { back = capset_back capsLength; same = capset_same capsLength }

-- ---- TS_RFX_CAPS

block_back : (capsLength : ℕ) (s : Entries) (rest : List ℕ) → GoodIn capsLength s → walk (block capsLength) (block_of s ++ rest) ≡ Came s rest
unfolding block block_of spelled bytes16 bytes32 ◌!◌⨾◌
block_back capsLength s rest g =
    field_back Two _ 0xCBC0 _ (omega arith)
    ∙ field_back Four _ 8 _ (omega arith)
    ∙ field_back Two _ 1 _ (omega arith)
    ∙ capset_back capsLength s rest g

block_same :
    (capsLength : ℕ) (m : List ℕ) (s : Entries) (rest : List ℕ) → Bytes m → walk (block capsLength) m ≡ Came s rest →
    GoodIn capsLength s × (m ≡ block_of s ++ rest)
unfolding block block_of spelled bytes16 bytes32
block_same capsLength m s rest b w =
    fixed_in Two 0xCBC0 5 _ m s rest b w λ m₁ blockType b₁ w₁.
    fixed_in Four 8 4 _ m₁ s rest b₁ w₁ λ m₂ block_len b₂ w₂.
    fixed_in Two 1 5 _ m₂ s rest b₂ w₂ λ m₃ numCapsets b₃ w₃.
    let e = capset_same capsLength m₃ s rest b₃ w₃ in
    (e.0, behind (spelled Two 0xCBC0) blockType (behind (spelled Four 8) block_len (behind (spelled Two 1) numCapsets e.1)))

pub block_both : (capsLength : ℕ) → Both (block capsLength) (GoodIn capsLength) block_of
block_both capsLength = record { back = block_back capsLength; same = block_same capsLength }

-- ---- the container

container_back : (c : Caps) (rest : List ℕ) → GoodCaps c → walk container (caps_of c ++ rest) ≡ Came c rest
unfolding container caps_of spelled bytes32
container_back c rest g =
    let s = entries_in c in
    let k = few s g.entries in
    field_back Four _ (33 + 8 * c.n) _ (omega arith)
    ∙ field_back Four _ c.flags _ g.flags
    ∙ field_back Four _ (21 + 8 * c.n) _ (omega arith)
    ∙ row_back (eqb (33 + 8 * c.n) (12 + (21 + 8 * c.n))) 4 _ _ (eq-eqb (33 + 8 * c.n) (12 + (21 + 8 * c.n)) (omega arith))
    ∙ then_back (block (21 + 8 * c.n)) _ (block_of s ++ rest) s rest (block_back (21 + 8 * c.n) s rest (g.entries, refl))
    ∙ gives_back c rest

container_same : (m : List ℕ) (c : Caps) (rest : List ℕ) → Bytes m → walk container m ≡ Came c rest → GoodCaps c × (m ≡ caps_of c ++ rest)
unfolding container caps_of spelled bytes32
container_same m c rest b w =
    field_in Four _ m c rest b w λ long m₁ length long-fits b₁ w₁.
    field_in Four _ m₁ c rest b₁ w₁ λ flags m₂ captureFlags flags-fit b₂ w₂.
    field_in Four _ m₂ c rest b₂ w₂ λ inner m₃ capsLength inner-fits b₃ w₃.
    let inside = row_same (eqb long (12 + inner)) 4 _ m₃ c rest w₃ in
    let set = then_same (block inner) (λ s. gives (caps_with flags s)) m₃ c rest inside.1 in
    let e = block_same inner m₃ set.given set.mid b₃ set.front in
    let end = gives_same (caps_with flags set.given) set.mid c rest set.on in
    let o : long ≡ 33 + 8 * set.given.n = omega (arith, eqb-true long (12 + inner) inside.0, e.0.1) in
    subst (λ (x : Caps). GoodCaps x × (m ≡ caps_of x ++ rest)) end.0 (
      record { flags = flags-fit; entries = e.0.0 },
      behind (spelled Four (33 + 8 * set.given.n)) (rw (← o) length)
          (behind (spelled Four flags) captureFlags
          (behind (spelled Four (21 + 8 * set.given.n)) (rw (← e.0.1) capsLength)
          (behind (block_of set.given) e.1 end.1))),
    )

pub container_both : Both container GoodCaps caps_of
container_both = record { back = container_back; same = container_same }

-- ---- the frame acknowledge capability

ack_cap_back : (count : ℕ) (rest : List ℕ) → GoodAckCap count → walk ack_cap (ack_cap_of count ++ rest) ≡ Came count rest
unfolding ack_cap ack_cap_of spelled bytes16 bytes32 ◌!◌⨾◌
ack_cap_back count rest g =
    field_back Two _ 0x001E _ (omega arith)
    ∙ field_back Two _ 8 _ (omega arith)
    ∙ field_back Four _ count _ g
    ∙ gives_back count rest

ack_cap_same : (m : List ℕ) (count : ℕ) (rest : List ℕ) → Bytes m → walk ack_cap m ≡ Came count rest → GoodAckCap count × (m ≡ ack_cap_of count ++ rest)
unfolding ack_cap ack_cap_of spelled bytes16 bytes32
ack_cap_same m count rest b w =
    fixed_in Two 0x001E 5 _ m count rest b w λ m₁ capabilitySetType b₁ w₁.
    fixed_in Two 8 4 _ m₁ count rest b₁ w₁ λ m₂ lengthCapability b₂ w₂.
    field_in Four _ m₂ count rest b₂ w₂ λ v m₃ frames fits b₃ w₃.
    let end = gives_same v m₃ count rest w₃ in
    subst (λ (x : ℕ). GoodAckCap x × (m ≡ ack_cap_of x ++ rest)) end.0
    (fits, behind (spelled Two 0x001E) capabilitySetType (behind (spelled Two 8) lengthCapability (behind (spelled Four v) frames end.1)))

pub ack_cap_both : Both ack_cap GoodAckCap ack_cap_of
ack_cap_both = record { back = ack_cap_back; same = ack_cap_same }

-- ---- the frame acknowledge message

-- the type is the low four bits, the version the upper twelve
low_four : (version : ℕ) → (7 + 16 * version) % 16 ≡ 7
low_four version = add-mul-mod_self_left 7 16 version

upper : (version : ℕ) → (7 + 16 * version) / 16 ≡ version
upper version = add-mul-div_left 7 version (omega arith) ∙ zero-add version

together : (kind : ℕ) → kind % 16 ≡ 7 → kind ≡ 7 + 16 * (kind / 16)
together kind e = sym (mod-add-div kind 16) ∙ ap (λ (x : ℕ). x + 16 * (kind / 16)) e

abbrev acked : ℕ → Ack → Ack
acked version a = record {
  version = version;
  source = a.source;
  share = a.share;
  pad = a.pad;
  stream = a.stream;
  uncompressed = a.uncompressed;
  compression = a.compression;
  compressed = a.compressed;
  frame = a.frame;
}

ack_back : (a : Ack) (rest : List ℕ) → GoodAck a → walk ack (ack_of a ++ rest) ≡ Came a rest
unfolding ack ack_of spelled bytes16 bytes32 ◌!◌⨾◌
ack_back a rest g =
    field_back Two _ 22 _ (omega arith)
    ∙ field_back Two _ (7 + 16 * a.version) _ (omega (arith, g.version))
    ∙ row_back _ 5 _ _ (eq-eqb ((7 + 16 * a.version) % 16) 7 (low_four a.version))
    ∙ field_back Two _ a.source _ g.source
    ∙ field_back Four _ a.share _ g.share
    ∙ field_back One _ a.pad _ g.pad
    ∙ field_back One _ a.stream _ g.stream
    ∙ field_back Two _ a.uncompressed _ g.uncompressed
    ∙ field_back One _ 0x38 _ (omega arith)
    ∙ field_back One _ a.compression _ g.compression
    ∙ field_back Two _ a.compressed _ g.compressed
    ∙ field_back Four _ a.frame _ g.frame
    ∙ gives_back _ rest
    ∙ ap (λ (v : ℕ). Came (acked v a) rest) (upper a.version)

ack_same : (m : List ℕ) (a : Ack) (rest : List ℕ) → Bytes m → walk ack m ≡ Came a rest → GoodAck a × (m ≡ ack_of a ++ rest)
unfolding ack ack_of spelled bytes16 bytes32
ack_same m a rest b w =
    fixed_in Two 22 4 _ m a rest b w λ m₁ totalLength b₁ w₁.
    field_in Two _ m₁ a rest b₁ w₁ λ kind m₂ pduType f₂ b₂ w₂.
    let typed = row_same (eqb (kind % 16) 7) 5 _ m₂ a rest w₂ in
    field_in Two _ m₂ a rest b₂ typed.1 λ source m₃ pduSource f₃ b₃ w₃.
    field_in Four _ m₃ a rest b₃ w₃ λ share m₄ shareId f₄ b₄ w₄.
    field_in One _ m₄ a rest b₄ w₄ λ pad m₅ pad1 f₅ b₅ w₅.
    field_in One _ m₅ a rest b₅ w₅ λ stream m₆ streamId f₆ b₆ w₆.
    field_in Two _ m₆ a rest b₆ w₆ λ full m₇ uncompressedLength f₇ b₇ w₇.
    fixed_in One 0x38 5 _ m₇ a rest b₇ w₇ λ m₈ pduType2 b₈ w₈.
    field_in One _ m₈ a rest b₈ w₈ λ how m₉ compressedType f₉ b₉ w₉.
    field_in Two _ m₉ a rest b₉ w₉ λ packed m₁₀ compressedLength f₁₀ b₁₀ w₁₀.
    field_in Four _ m₁₀ a rest b₁₀ w₁₀ λ frame m₁₁ frameID f₁₁ b₁₁ w₁₁.
    let end = gives_same _ m₁₁ a rest w₁₁ in
    let o = together kind (eqb-true (kind % 16) 7 typed.0) in
    subst (λ (x : Ack). GoodAck x × (m ≡ ack_of x ++ rest)) end.0 (
      record {
        version = omega (arith, f₂);
        source = f₃;
        share = f₄;
        pad = f₅;
        stream = f₆;
        uncompressed = f₇;
        compression = f₉;
        compressed = f₁₀;
        frame = f₁₁;
      },
      behind (spelled Two 22) totalLength
          (behind (spelled Two (7 + 16 * (kind / 16))) (pduType ∙ ap (λ (x : ℕ). spelled Two x ++ m₂) o)
          (behind (spelled Two source) pduSource
          (behind (spelled Four share) shareId
          (behind (spelled One pad) pad1
          (behind (spelled One stream) streamId
          (behind (spelled Two full) uncompressedLength
          (behind (spelled One 0x38) pduType2
          (behind (spelled One how) compressedType
          (behind (spelled Two packed) compressedLength
          (behind (spelled Four frame) frameID end.1)))))))))),
    )

pub ack_both : Both ack GoodAck ack_of
ack_both = record { back = ack_back; same = ack_same }
