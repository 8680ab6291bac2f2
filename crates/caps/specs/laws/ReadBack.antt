-- Request Twelve's law over the definitions and over the calls: "Writing then reading gives the fields back, and any accepted bytes, written again from
-- their fields, come out the same, flags that aren't judged included." And one answer and one content of lent memory for every input.
-- Assumes nothing.
use Rattle.std.specs.Prelude.{ℕ, zero, suc, ◌<◌, ◌≤◌, ◌≡◌, refl, true, false, List, length, Result, Ok}
use Rattle.std.proofs.Common.{ap, sym, subst₂, ◌∙◌, arith, le-leb}
use Rattle.whole.specs.Row.{◌⇒◌∣◌}
use Rattle.whole.specs.laws.Row.{held, passes}
use Rattle.wire.specs.Le.{bytes16, bytes32}
use Rattle.wire.specs.Refusal.{number_of}
use Rattle.wire.specs.Wrote.{Wrote}
use Rattle.wire.specs.laws.Wrote.{answer_of, wrote_bytes, wrote_answer, wrote_once}
use Rattle.wire.specs.declared.Refusal.{Refusal}
use Rattle.caps.specs.Walk.{Bytes, refused_by}
use Rattle.caps.specs.Caps.{entries_over, entries_of, entries_in, capset_of, block_of, caps_with, container, read_caps, caps_of, modes_good, caps_fault}
use Rattle.caps.specs.Caps.{GoodEntries, none, one, two, GoodCaps}
use Rattle.caps.specs.AckCap.{ack_cap, read_ack_cap, ack_cap_of, ack_cap_fault, GoodAckCap}
use Rattle.caps.specs.Ack.{ack, read_ack, ack_of, ack_fault, GoodAck}
use Rattle.caps.specs.Calls.{sent_by, ReadCaps, WriteCaps, there, fields_of, ReadAckCap, WriteAckCap, ReadAck, AckFit, WriteAck}
use Rattle.caps.specs.Request.{Again}
use Rattle.caps.specs.laws.Walk.{read_back, read_same}
use Rattle.caps.specs.laws.Back.{few, container_both, ack_cap_both, ack_both}
use Rattle.caps.specs.laws.Write.{caps_long, writable, caps_fine, ack_writable}
use Rattle.caps.specs.declared.Entry.{Entry}
use Rattle.caps.specs.declared.Caps.{Caps}
use Rattle.caps.specs.declared.Ack.{Ack}

-- ---- over the definitions

pub caps_back : (c : Caps) → GoodCaps c → read_caps (caps_of c) ≡ Ok c
unfolding read_caps
caps_back c g = read_back Ok refused_by container container_both c g

pub caps_same : (m : List ℕ) (c : Caps) → Bytes m → read_caps m ≡ Ok c → GoodCaps c × (caps_of c ≡ m)
unfolding read_caps
caps_same m c b e = read_same Ok refused_by container container_both c (λ x q. cc) (λ n q. let z : ◌≡◌ {A = ℕ} 0 1 = cc in omega arith) m b e

pub ack_cap_back : (count : ℕ) → GoodAckCap count → read_ack_cap (ack_cap_of count) ≡ Ok count
unfolding read_ack_cap
ack_cap_back count g = read_back Ok refused_by ack_cap ack_cap_both count g

pub ack_cap_same : (m : List ℕ) (count : ℕ) → Bytes m → read_ack_cap m ≡ Ok count → GoodAckCap count × (ack_cap_of count ≡ m)
unfolding read_ack_cap
ack_cap_same m count b e = read_same Ok refused_by ack_cap ack_cap_both count (λ x q. cc) (λ n q. let z : ◌≡◌ {A = ℕ} 0 1 = cc in omega arith) m b e

pub ack_back : (a : Ack) → GoodAck a → read_ack (ack_of a) ≡ Ok a
unfolding read_ack
ack_back a g = read_back Ok refused_by ack ack_both a g

pub ack_same : (m : List ℕ) (a : Ack) → Bytes m → read_ack m ≡ Ok a → GoodAck a × (ack_of a ≡ m)
unfolding read_ack
ack_same m a b e = read_same Ok refused_by ack ack_both a (λ x q. cc) (λ n q. let z : ◌≡◌ {A = ℕ} 0 1 = cc in omega arith) m b e

-- ---- over the calls, whatever the layout

-- what a writer that is done has written is its bytes
sent : (f : ℕ) (bytes out out' m : List ℕ) (w : Result ℕ Refusal) → Wrote f bytes out out' w → number_of w ≡ 0 → m ≡ sent_by w out' → (0 ≡ f) × (m ≡ bytes)
sent f bytes out out' m w p e is = (sym e ∙ p.number, is ∙ wrote_bytes f bytes out out' w p e)

-- bytes that were read, written again where nothing is refused
again : (f : ℕ) (bytes out out' m : List ℕ) (w : Result ℕ Refusal) → Wrote f bytes out out' w → 0 ≡ f → 0 < length bytes → bytes ≡ m → Again m out' w
again f bytes out out' m w p z h e = record {
  done = wrote_answer f bytes out out' w (λ q. h) p ∙ (ap (λ (n : ℕ). answer_of n bytes) (sym z) ∙ ap (λ (l : List ℕ). Ok (length l)) e);
  sent = wrote_bytes f bytes out out' w p (p.number ∙ sym z) ∙ e;
}

-- one answer and one content of lent memory (a reader lends none, and its promise is the answer itself)
once : {A : Type 0} (fault : A → ℕ → ℕ) (bytes : A → List ℕ) → ((a : A) → 0 < length (bytes a)) → (a b : A) (out o out' o' : List ℕ) (w v : Result ℕ Refusal) →
    Wrote (fault a (length out)) (bytes a) out out' w → Wrote (fault b (length o)) (bytes b) o o' v → a ≡ b → out ≡ o → (w ≡ v) × (out' ≡ o')
once {A = A} fault bytes some a b out o out' o' w v p q e d =
    wrote_once _ (bytes a) out out' o' w v (λ z. some a) p
    (subst₂ (λ (x : A) (l : List ℕ). Wrote (fault x (length l)) (bytes x) l o' v) (sym e) (sym d) q)

-- ---- the container

pub caps_some : (c : Caps) → 0 < length (caps_of c)
unfolding caps_of bytes32
caps_some c = omega arith

true_false : true ≡ false → ⊥
true_false e = let z : ◌≡◌ {A = ℕ} 0 1 = cc in omega arith

-- the entries that are there, by their number
fields_bytes : (flags n : ℕ) (e f : Entry) → n ≤ 2 → caps_of (caps_with flags (entries_over n e f)) ≡ caps_of (caps_with flags (there (entries_over n e f)))
unfolding caps_of block_of capset_of entries_of there ◌⇒◌∣◌
fields_bytes flags zero e f h = refl
fields_bytes flags (suc zero) e f h = refl
fields_bytes flags (suc (suc zero)) e f h = refl
fields_bytes flags (suc (suc (suc n))) e f h = absurd (omega arith)

good_there : (n : ℕ) (e f : Entry) → n ≤ 2 → modes_good (entries_over n e f) ≡ true → e.flags < 256 → f.flags < 256 → GoodEntries (there (entries_over n e f))
unfolding modes_good there ◌⇒◌∣◌
good_there zero e f h g p q = none
good_there (suc zero) e f h g p q = one e (record { flags = p; mode = (held _ _ _ _ true_false (sym g)).0 })
good_there (suc (suc zero)) e f h g p q =
    let a = held _ _ _ _ true_false (sym g) in
    two e f (record { flags = p; mode = a.0 }) (record { flags = q; mode = sym a.1 })
good_there (suc (suc (suc n))) e f h g p q = absurd (omega arith)

-- what the writer wrote is read back by the reader
pub caps_written :
    (w : WriteCaps) (r : ReadCaps) → number_of w.answer ≡ 0 → r.message ≡ sent_by w.answer w.out' → r.answer ≡ Ok (fields_of w.caps)
caps_written w r e is =
    let c = w.caps in
    let s = sent _ (caps_of c) w.out w.out' r.message w.answer w.promise e is in
    let k = writable c (length w.out) s.0 in
    let g = good_there c.n c.first c.second k.few k.modes w.fit.first w.fit.second in
    r.promise
    ∙ ap read_caps (s.1 ∙ fields_bytes c.flags c.n c.first c.second k.few)
    ∙ caps_back (fields_of c) (record { flags = w.fit.flags; entries = g })

-- what the reader took is written again by the writer
pub caps_again : (r : ReadCaps) (w : WriteCaps) → r.answer ≡ Ok w.caps → length r.message ≤ length w.out → Again r.message w.out' w.answer
caps_again r w e room =
    let c = w.caps in
    let s = caps_same r.message c r.bytes (sym r.promise ∙ e) in
    let k = few (entries_in c) s.0.entries in
    let z = caps_fine c (length w.out) s.0.entries k (omega (arith, caps_long c k, ap length s.1)) in
    again _ (caps_of c) w.out w.out' r.message w.answer w.promise z (caps_some c) s.1

pub caps_once : (w v : WriteCaps) → w.caps ≡ v.caps → w.out ≡ v.out → (w.answer ≡ v.answer) × (w.out' ≡ v.out')
caps_once w v = once caps_fault caps_of caps_some w.caps v.caps w.out v.out w.out' v.out' w.answer v.answer w.promise v.promise

-- ---- the frame acknowledge capability

ack_cap_some : (count : ℕ) → 8 ≡ length (ack_cap_of count)
unfolding ack_cap_of bytes16 bytes32
ack_cap_some count = refl

ack_cap_fine : (room : ℕ) → 8 ≤ room → 0 ≡ ack_cap_fault room
unfolding ack_cap_fault
ack_cap_fine room h = passes _ _ _ _ (le-leb 8 room h) refl

pub ack_cap_written :
    (w : WriteAckCap) (r : ReadAckCap) → number_of w.answer ≡ 0 → r.message ≡ sent_by w.answer w.out' → r.answer ≡ Ok w.count
ack_cap_written w r e is =
    let s = sent _ (ack_cap_of w.count) w.out w.out' r.message w.answer w.promise e is in
    r.promise ∙ (ap read_ack_cap s.1 ∙ ack_cap_back w.count w.fit)

pub ack_cap_again :
    (r : ReadAckCap) (w : WriteAckCap) → r.answer ≡ Ok w.count → length r.message ≤ length w.out → Again r.message w.out' w.answer
ack_cap_again r w e room =
    let s = ack_cap_same r.message w.count r.bytes (sym r.promise ∙ e) in
    let l = ack_cap_some w.count in
    let z = ack_cap_fine (length w.out) (omega (arith, l, ap length s.1)) in
    again _ (ack_cap_of w.count) w.out w.out' r.message w.answer w.promise z (omega (arith, l)) s.1

pub ack_cap_once : (w v : WriteAckCap) → w.count ≡ v.count → w.out ≡ v.out → (w.answer ≡ v.answer) × (w.out' ≡ v.out')
ack_cap_once w v =
    once (λ _. ack_cap_fault) ack_cap_of (λ n. omega (arith, ack_cap_some n)) w.count v.count w.out v.out w.out' v.out' w.answer v.answer
    w.promise v.promise

-- ---- the frame acknowledge message

ack_some : (a : Ack) → 22 ≡ length (ack_of a)
unfolding ack_of bytes16 bytes32
ack_some a = refl

ack_fine : (version room : ℕ) → version < 4096 → 22 ≤ room → 0 ≡ ack_fault version room
unfolding ack_fault
ack_fine version room g h = passes _ _ _ _ (le-leb version 4095 (omega arith)) (passes _ _ _ _ (le-leb 22 room h) refl)

good_ack : (a : Ack) → a.version ≤ 4095 → AckFit a → GoodAck a
good_ack a v f = record {
  version = omega arith;
  source = f.source;
  share = f.share;
  pad = f.pad;
  stream = f.stream;
  uncompressed = f.uncompressed;
  compression = f.compression;
  compressed = f.compressed;
  frame = f.frame;
}

pub ack_written : (w : WriteAck) (r : ReadAck) → number_of w.answer ≡ 0 → r.message ≡ sent_by w.answer w.out' → r.answer ≡ Ok w.ack
ack_written w r e is =
    let s = sent _ (ack_of w.ack) w.out w.out' r.message w.answer w.promise e is in
    let k = ack_writable w.ack.version (length w.out) s.0 in
    r.promise ∙ (ap read_ack s.1 ∙ ack_back w.ack (good_ack w.ack k.0 w.fit))

pub ack_again : (r : ReadAck) (w : WriteAck) → r.answer ≡ Ok w.ack → length r.message ≤ length w.out → Again r.message w.out' w.answer
ack_again r w e room =
    let s = ack_same r.message w.ack r.bytes (sym r.promise ∙ e) in
    let l = ack_some w.ack in
    let z = ack_fine w.ack.version (length w.out) s.0.version (omega (arith, l, ap length s.1)) in
    again _ (ack_of w.ack) w.out w.out' r.message w.answer w.promise z (omega (arith, l)) s.1

pub ack_once : (w v : WriteAck) → w.ack ≡ v.ack → w.out ≡ v.out → (w.answer ≡ v.answer) × (w.out' ≡ v.out')
ack_once w v =
    once (λ a. ack_fault a.version) ack_of (λ a. omega (arith, ack_some a)) w.ack v.ack w.out v.out w.out' v.out' w.answer v.answer
    w.promise v.promise
