-- Each layout at a field that is not what it should be: the fields before it are passed (`field_back`, `row_back`), and its row stops (`row_stops`).
-- Assumes nothing.
use Rattle.std.specs.Prelude.{ℕ, ◌+◌, ◌*◌, ◌%◌, ◌≤◌, ◌<◌, ◌≡◌, refl, Bool, true, false, ◌≢◌, List, ◌∷◌, ◌++◌, leb, eqb, Err}
use Rattle.std.proofs.Common.{ap, sym, ◌∙◌, arith, eq-eqb, ne_eqb, le-leb}
use Rattle.whole.specs.Row.{◌!◌⨾◌, ◌⇒◌∣◌}
use Rattle.whole.specs.laws.Row.{case_no}
use Rattle.wire.specs.Le.{bytes16, bytes32}
use Rattle.wire.specs.Mode.{is_mode}
use Rattle.wire.specs.Refusal.{refusal_of, number_of}
use Rattle.wire.specs.laws.Refusal.{number_back}
use Rattle.caps.specs.Walk.{spelled, Layout, gives, refuse, field, ◌then◌, Stopped, walk, ended, answered}
use Rattle.caps.specs.Caps.{Entries, entry, entry_of, no_entry, one_entry, two_entries, entries, capset, block, container, read_caps, GoodEntry}
use Rattle.caps.specs.AckCap.{ack_cap, read_ack_cap}
use Rattle.caps.specs.Ack.{ack, read_ack}
use Rattle.caps.specs.Request.{read_number, EntryRefuses, CapsetRefuses, BlockRefuses, ContainerRefuses, AckCapRefuses, AckRefuses}
use Rattle.caps.specs.laws.Walk.{then_back, field_back, row_back}
use Rattle.caps.specs.laws.Step.{row_stops, stops_then}
use Rattle.caps.specs.laws.Back.{entry_both}
use Rattle.caps.specs.laws.Refuse.{read_few, read_numbers, walk_says, block_refusing}
use Rattle.caps.specs.declared.Entry.{Entry}
use Rattle.caps.specs.declared.walk.Width.TheVariants.{One, Two, Four}

-- a field whose row stops
other : (v fixed : ℕ) → v ≢ fixed → eqb v fixed ≡ false
other v fixed h = ne_eqb v fixed h

no_mode : (v : ℕ) → v ≢ 1 → v ≢ 4 → is_mode v ≡ false
unfolding is_mode
no_mode v a b = sym (case_no (eqb v 1) _ _ _ (ne_eqb v 1 a) (sym (ne_eqb v 4 b)))

pub entry_refuses : EntryRefuses
unfolding entry spelled bytes16 bytes32 ◌!◌⨾◌
entry_refuses = record {
  version = λ v more b h. field_back Two _ v more b ∙ row_stops (eqb v 0x0100) 5 _ more (other v 0x0100 h);
  tile-size = λ v more b h. field_back Two _ 0x0100 _ (omega arith) ∙ field_back Two _ v more b ∙ row_stops (eqb v 0x0040) 5 _ more (other v 0x0040 h);
  colour = λ flags v more f b h.
      field_back Two _ 0x0100 _ (omega arith) ∙ field_back Two _ 0x0040 _ (omega arith) ∙ field_back One _ flags _ f ∙ field_back One _ v more b
      ∙ row_stops (eqb v 1) 5 _ more (other v 1 h);
  transform = λ flags v more f b h.
      field_back Two _ 0x0100 _ (omega arith) ∙ field_back Two _ 0x0040 _ (omega arith) ∙ field_back One _ flags _ f ∙ field_back One _ 1 _ (omega arith)
      ∙ field_back One _ v more b ∙ row_stops (eqb v 1) 5 _ more (other v 1 h);
  entropy = λ flags v more f b h i.
      field_back Two _ 0x0100 _ (omega arith) ∙ field_back Two _ 0x0040 _ (omega arith) ∙ field_back One _ flags _ f ∙ field_back One _ 1 _ (omega arith)
      ∙ field_back One _ 1 _ (omega arith) ∙ field_back One _ v more b ∙ row_stops (is_mode v) 5 _ more (no_mode v h i);
}

-- ---- the capset

entry_in : (n k : ℕ) (more : List ℕ) → 1 ≤ n → walk entry more ≡ Stopped k → walk (entries n) more ≡ Stopped k
unfolding entries ◌⇒◌∣◌
entry_in n k more l e =
    ap (λ (t : Bool). walk (t ⇒ gives no_entry ∣ eqb n 1 ⇒ (entry then λ e. gives (one_entry e)) ∣ (entry then λ e. entry then λ f. gives (two_entries e f)))
    more)
    (ne_eqb n 0 (λ z. omega arith))
    ∙ by (eqb n 1)
  where
    by : (t : Bool) → walk (t ⇒ (entry then λ e. gives (one_entry e)) ∣ (entry then λ e. entry then λ f. gives (two_entries e f))) more ≡ Stopped k
    by true = stops_then entry _ more k e
    by false = stops_then entry _ more k e

entry_behind : (e : Entry) (k : ℕ) (more : List ℕ) → GoodEntry e → walk entry more ≡ Stopped k → walk (entries 2) (entry_of e ++ more) ≡ Stopped k
unfolding entries ◌⇒◌∣◌
entry_behind e k more g s = then_back entry _ (entry_of e ++ more) e more (entry_both.back e more g) ∙ stops_then entry _ more k s

-- what stands behind the number of entries
behind : ℕ → ℕ → Layout Entries
behind size n = field Two λ icapLen. eqb icapLen 8 ! refuse 4 ⨾ eqb size (13 + 8 * n) ! refuse 4 ⨾ entries n

to_count :
    (size n : ℕ) (rest : List ℕ) → size < 4294967296 → n ≤ 2 →
    walk (capset (8 + size)) (bytes16 0xCBC1 ++ (bytes32 size ++ (1 ∷ (bytes16 0xCFC0 ++ (bytes16 n ++ rest))))) ≡ walk (behind size n) rest
unfolding behind capset spelled bytes16 bytes32 ◌!◌⨾◌
to_count size n rest s l =
    field_back Two _ 0xCBC1 _ (omega arith)
    ∙ field_back Four _ size _ s
    ∙ row_back (eqb (8 + size) (8 + size)) 4 _ _ (eq-eqb (8 + size) (8 + size) refl)
    ∙ field_back One _ 1 _ (omega arith)
    ∙ field_back Two _ 0xCFC0 _ (omega arith)
    ∙ field_back Two _ n _ (omega arith)
    ∙ row_back (leb n 2) 6 _ _ (le-leb n 2 l)

to_entries :
    (n : ℕ) (rest : List ℕ) → n ≤ 2 →
    walk (capset (21 + 8 * n)) (bytes16 0xCBC1 ++ (bytes32 (13 + 8 * n) ++ (1 ∷ (bytes16 0xCFC0 ++ (bytes16 n ++ (bytes16 8 ++ rest))))))
    ≡ walk (entries n) rest
unfolding behind spelled bytes16 ◌!◌⨾◌
to_entries n rest l =
    let e : 21 + 8 * n ≡ 8 + (13 + 8 * n) = omega arith in
    ap (λ (c : ℕ). walk (capset c) (bytes16 0xCBC1 ++ (bytes32 (13 + 8 * n) ++ (1 ∷ (bytes16 0xCFC0 ++ (bytes16 n ++ (bytes16 8 ++ rest))))))) e
    ∙ to_count (13 + 8 * n) n _ (omega arith) l
    ∙ field_back Two _ 8 rest (omega arith)
    ∙ row_back (eqb (13 + 8 * n) (13 + 8 * n)) 4 _ _ (eq-eqb (13 + 8 * n) (13 + 8 * n) refl)

pub capset_refuses : CapsetRefuses
unfolding behind capset spelled bytes16 bytes32 ◌!◌⨾◌
capset_refuses = record {
  block_type = λ size v more b h. field_back Two _ v more b ∙ row_stops (eqb v 0xCBC1) 5 _ more (other v 0xCBC1 h);
  caps_length = λ capsLength size more s h.
      field_back Two _ 0xCBC1 _ (omega arith) ∙ field_back Four _ size more s ∙ row_stops (eqb capsLength (8 + size)) 4 _ more (other capsLength (8 + size) h);
  codec = λ size v more s b h.
      field_back Two _ 0xCBC1 _ (omega arith) ∙ field_back Four _ size _ s ∙ row_back (eqb (8 + size) (8 + size)) 4 _ _ (eq-eqb (8 + size) (8 + size) refl)
      ∙ field_back One _ v more b ∙ row_stops (eqb v 1) 5 _ more (other v 1 h);
  capset_type = λ size v more s b h.
      field_back Two _ 0xCBC1 _ (omega arith) ∙ field_back Four _ size _ s ∙ row_back (eqb (8 + size) (8 + size)) 4 _ _ (eq-eqb (8 + size) (8 + size) refl)
      ∙ field_back One _ 1 _ (omega arith) ∙ field_back Two _ v more b ∙ row_stops (eqb v 0xCFC0) 5 _ more (other v 0xCFC0 h);
  entry_length = λ size n v more s l b h.
      to_count size n _ s l ∙ field_back Two _ v more b ∙ row_stops (eqb v 8) 4 _ more (other v 8 h);
  block_length = λ size n more s l h.
      to_count size n _ s l ∙ field_back Two _ 8 more (omega arith) ∙ row_stops (eqb size (13 + 8 * n)) 4 _ more (other size (13 + 8 * n) h);
  first_entry = λ n k more o l e. to_entries n more l ∙ entry_in n k more o e;
  second_entry = λ e k more g s. to_entries 2 (entry_of e ++ more) (omega arith) ∙ entry_behind e k more g s;
}

pub block_refuses : BlockRefuses
unfolding block spelled bytes16 bytes32 ◌!◌⨾◌
block_refuses = record {
  block_type = λ capsLength v more b h. field_back Two _ v more b ∙ row_stops (eqb v 0xCBC0) 5 _ more (other v 0xCBC0 h);
  block_length = λ capsLength v more b h.
      field_back Two _ 0xCBC0 _ (omega arith) ∙ field_back Four _ v more b ∙ row_stops (eqb v 8) 4 _ more (other v 8 h);
  capsets = λ capsLength v more b h.
      field_back Two _ 0xCBC0 _ (omega arith) ∙ field_back Four _ 8 _ (omega arith) ∙ field_back Two _ v more b
      ∙ row_stops (eqb v 1) 5 _ more (other v 1 h);
  inside = λ capsLength k more e.
      field_back Two _ 0xCBC0 _ (omega arith) ∙ field_back Four _ 8 _ (omega arith) ∙ field_back Two _ 1 more (omega arith) ∙ e;
}

-- what the block refuses, by its refusal and by its number
block_inside :
    (flags capsLength k : ℕ) (more : List ℕ) → flags < 4294967296 → 12 + capsLength < 4294967296 → walk (block capsLength) more ≡ Stopped k →
    read_caps (bytes32 (12 + capsLength) ++ (bytes32 flags ++ (bytes32 capsLength ++ more))) ≡ Err (refusal_of k)
unfolding read_caps container spelled bytes32 ended
block_inside flags capsLength k more f c e =
    ap answered
    (field_back Four _ (12 + capsLength) _ c ∙ field_back Four _ flags _ f ∙ field_back Four _ capsLength more (omega arith)
    ∙ row_back (eqb (12 + capsLength) (12 + capsLength)) 4 _ _ (eq-eqb (12 + capsLength) (12 + capsLength) refl)
    ∙ stops_then (block capsLength) _ more k e)

block_number :
    (flags capsLength k : ℕ) (more : List ℕ) → flags < 4294967296 → 12 + capsLength < 4294967296 → walk (block capsLength) more ≡ Stopped k →
    number_of (read_caps (bytes32 (12 + capsLength) ++ (bytes32 flags ++ (bytes32 capsLength ++ more)))) ≡ k
block_number flags capsLength k more f c e =
    let few = read_few k (walk_says read_number read_numbers (block capsLength) (block_refusing capsLength) more k e) in
    ap number_of (block_inside flags capsLength k more f c e) ∙ number_back k few.0 few.1

pub container_refuses : ContainerRefuses
unfolding read_caps container spelled bytes32 ended refusal_of ◌⇒◌∣◌
container_refuses = record {
  length = λ size flags capsLength more s f c h.
      ap answered
      (field_back Four _ size _ s ∙ field_back Four _ flags _ f ∙ field_back Four _ capsLength more c
      ∙ row_stops (eqb size (12 + capsLength)) 4 _ more (other size (12 + capsLength) h));
  inside = block_inside;
  inside_number = block_number;
}

-- ---- the acknowledgements

pub ack_cap_refuses : AckCapRefuses
unfolding read_ack_cap ack_cap spelled bytes16 ended refusal_of ◌!◌⨾◌ ◌⇒◌∣◌
ack_cap_refuses = record {
  type = λ v more b h. ap answered (field_back Two _ v more b ∙ row_stops (eqb v 0x001E) 5 _ more (other v 0x001E h));
  length = λ v more b h.
      ap answered
      (field_back Two _ 0x001E _ (omega arith) ∙ field_back Two _ v more b ∙ row_stops (eqb v 8) 4 _ more (other v 8 h));
}

pub ack_refuses : AckRefuses
unfolding read_ack ack spelled bytes16 bytes32 ended refusal_of ◌!◌⨾◌ ◌⇒◌∣◌
ack_refuses = record {
  total_length = λ v more b h. ap answered (field_back Two _ v more b ∙ row_stops (eqb v 22) 4 _ more (other v 22 h));
  type = λ v more b h.
      ap answered
      (field_back Two _ 22 _ (omega arith) ∙ field_back Two _ v more b ∙ row_stops (eqb (v % 16) 7) 5 _ more (other (v % 16) 7 h));
  second_type = λ a v more g b h.
      let p = g.version in
      let low : (7 + 16 * a.version) % 16 ≡ 7 = omega arith in
      ap answered
      (field_back Two _ 22 _ (omega arith)
      ∙ field_back Two _ (7 + 16 * a.version) _ (omega arith)
      ∙ row_back (eqb ((7 + 16 * a.version) % 16) 7) 5 _ _ (eq-eqb ((7 + 16 * a.version) % 16) 7 low)
      ∙ field_back Two _ a.source _ g.source
      ∙ field_back Four _ a.share _ g.share
      ∙ field_back One _ a.pad _ g.pad
      ∙ field_back One _ a.stream _ g.stream
      ∙ field_back Two _ a.uncompressed _ g.uncompressed
      ∙ field_back One _ v more b
      ∙ row_stops (eqb v 0x38) 5 _ more (other v 0x38 h));
}
