-- All that specs/Request states is so.
-- Assumes nothing.
use Rattle.std.specs.Prelude.{ℕ, ◌+◌, ◌<◌, ◌≡◌, refl, true, List, ◌∷◌, ◌++◌, leb, eqb, length, take, Ok, Err}
use Rattle.std.proofs.Common.{ap, sym, ◌∙◌, arith, eq-eqb}
use Rattle.std.proofs.lemmas.Bool.{lt-leb}
use Rattle.whole.specs.Row.{◌!◌⨾◌, ◌⇒◌∣◌}
use Rattle.whole.specs.laws.Row.{fails}
use Rattle.wire.specs.Le.{bytes16, bytes32}
use Rattle.wire.specs.laws.Wrote.{answer_of, wrote_answer}
use Rattle.wire.specs.Refusal.{refusal_number, refusal_of}
use Rattle.wire.specs.declared.Refusal.{Refusal}
use Rattle.wire.specs.declared.Refusal.TheVariants.{Cut, Length, TooBig}
use Rattle.caps.specs.Walk.{spelled, Stopped, walk, ended, answered}
use Rattle.caps.specs.Caps.{capset, block, container, read_caps, caps_of, caps_fault}
use Rattle.caps.specs.AckCap.{ack_cap, read_ack_cap}
use Rattle.caps.specs.Ack.{ack, read_ack}
use Rattle.caps.specs.Calls.{ReadCaps, WriteCaps, ReadAckCap, ReadAck}
use Rattle.caps.specs.Request.{read_number, ack_says, RequestTwelve}
use Rattle.caps.specs.laws.Walk.{onward, walk_then, field_back, row_back}
use Rattle.caps.specs.laws.Back.{entry_both, capset_both, block_both, container_both, ack_cap_both, ack_both}
use Rattle.caps.specs.laws.Refuse.{read_numbers, ack_numbers, container_refusing, ack_cap_refusing, ack_refusing, read_cut, read-longer}
use Rattle.caps.specs.laws.Refuse.{ack_among, read_few, read_says}
use Rattle.caps.specs.laws.Step.{row_stops}
use Rattle.caps.specs.laws.Fields.{entry_refuses, capset_refuses, block_refuses, container_refuses, ack_cap_refuses, ack_refuses}
use Rattle.caps.specs.laws.ReadBack.{caps_some, caps_written, caps_again, caps_once, ack_cap_written, ack_cap_again, ack_cap_once, ack_written}
use Rattle.caps.specs.laws.ReadBack.{ack_again, ack_once}
use Rattle.caps.specs.declared.Caps.{Caps}
use Rattle.caps.specs.declared.Ack.{Ack}
use Rattle.caps.specs.declared.walk.Width.TheVariants.{One, Two, Four}

-- ---- too many entries

block_many :
    (size n : ℕ) (more : List ℕ) → 20 + size < 4294967296 → n < 65536 → 2 < n →
    walk (block (8 + size))
    (bytes16 0xCBC0 ++ (bytes32 8 ++ (bytes16 1 ++ (bytes16 0xCBC1 ++ (bytes32 size ++ (1 ∷ (bytes16 0xCFC0 ++ (bytes16 n ++ more))))))))
    ≡ Stopped 6
unfolding block capset spelled bytes16 bytes32 ◌!◌⨾◌
block_many size n more s h t =
    field_back Two _ 0xCBC0 _ (omega arith)
    ∙ field_back Four _ 8 _ (omega arith)
    ∙ field_back Two _ 1 _ (omega arith)
    ∙ field_back Two _ 0xCBC1 _ (omega arith)
    ∙ field_back Four _ size _ (omega arith)
    ∙ row_back (eqb (8 + size) (8 + size)) 4 _ _ (eq-eqb (8 + size) (8 + size) refl)
    ∙ field_back One _ 1 _ (omega arith)
    ∙ field_back Two _ 0xCFC0 _ (omega arith)
    ∙ field_back Two _ n _ h
    ∙ row_stops (leb n 2) 6 _ more (lt-leb n 2 t)

caps_many :
    (flags size n : ℕ) (more : List ℕ) → flags < 4294967296 → 20 + size < 4294967296 → n < 65536 → 2 < n →
    read_caps (bytes32 (20 + size) ++ (bytes32 flags ++ (bytes32 (8 + size) ++ (bytes16 0xCBC0 ++ (bytes32 8 ++ (bytes16 1 ++
    (bytes16 0xCBC1 ++ (bytes32 size ++ (1 ∷ (bytes16 0xCFC0 ++ (bytes16 n ++ more)))))))))))
    ≡ Err TooBig
unfolding read_caps container spelled bytes32 ended refusal_of ◌⇒◌∣◌
caps_many flags size n more f s h t =
    ap answered
    (field_back Four _ (20 + size) _ s
    ∙ field_back Four _ flags _ f
    ∙ field_back Four _ (8 + size) _ (omega arith)
    ∙ row_back (eqb (20 + size) (12 + (8 + size))) 4 _ _ (eq-eqb (20 + size) (12 + (8 + size)) (omega arith))
    ∙ walk_then (block (8 + size)) _ _
    ∙ ap (onward _) (block_many size n more s h t))

many_fault : (c : Caps) (room : ℕ) → 2 < c.n → 6 ≡ caps_fault c room
unfolding caps_fault
many_fault c room h = fails _ _ _ _ (lt-leb c.n 2 h) refl

many_written : (w : WriteCaps) → 2 < w.caps.n → w.answer ≡ Err TooBig
unfolding refusal_of ◌⇒◌∣◌
many_written w h =
    wrote_answer _ (caps_of w.caps) w.out w.out' w.answer (λ z. caps_some w.caps) w.promise
    ∙ ap (λ (f : ℕ). answer_of f (caps_of w.caps)) (sym (many_fault w.caps (length w.out) h))

-- ---- cut, longer, numbers: of a call

module _ (r s : ReadCaps) (a : Caps) (e : r.answer ≡ Ok a) where
  took : read_caps r.message ≡ Ok a
  took = sym r.promise ∙ e

  caps_cut : (k : ℕ) → k < length r.message → s.message ≡ take k r.message → s.answer ≡ Err Cut
  unfolding read_caps
  caps_cut k h is = s.promise ∙ (ap read_caps is ∙ read_cut container container_both r.message a k took h)

  caps_longer : (b : ℕ) (more : List ℕ) → s.message ≡ r.message ++ b ∷ more → s.answer ≡ Err Length
  unfolding read_caps
  caps_longer b more is = s.promise ∙ (ap read_caps is ∙ read-longer container container_both r.message a b more r.bytes took)

caps_numbers : (r : ReadCaps) (e : Refusal) → r.answer ≡ Err e → read_number (refusal_number e) ≡ true
unfolding read_caps
caps_numbers r e h =
    read_says container read_number read_numbers read_few container_refusing r.message e (sym r.promise ∙ h)

module _ (r s : ReadAckCap) (a : ℕ) (e : r.answer ≡ Ok a) where
  took_cap : read_ack_cap r.message ≡ Ok a
  took_cap = sym r.promise ∙ e

  ack_cap_cut : (k : ℕ) → k < length r.message → s.message ≡ take k r.message → s.answer ≡ Err Cut
  unfolding read_ack_cap
  ack_cap_cut k h is = s.promise ∙ (ap read_ack_cap is ∙ read_cut ack_cap ack_cap_both r.message a k took_cap h)

  ack_cap_longer : (b : ℕ) (more : List ℕ) → s.message ≡ r.message ++ b ∷ more → s.answer ≡ Err Length
  unfolding read_ack_cap
  ack_cap_longer b more is =
      s.promise ∙ (ap read_ack_cap is ∙ read-longer ack_cap ack_cap_both r.message a b more r.bytes took_cap)

ack_cap_numbers : (r : ReadAckCap) (e : Refusal) → r.answer ≡ Err e → ack_says (refusal_number e) ≡ true
unfolding read_ack_cap
ack_cap_numbers r e h =
    read_says ack_cap ack_says ack_numbers (λ n k. read_few n (ack_among n k)) ack_cap_refusing r.message e (sym r.promise ∙ h)

module _ (r s : ReadAck) (a : Ack) (e : r.answer ≡ Ok a) where
  took_ack : read_ack r.message ≡ Ok a
  took_ack = sym r.promise ∙ e

  ack_cut : (k : ℕ) → k < length r.message → s.message ≡ take k r.message → s.answer ≡ Err Cut
  unfolding read_ack
  ack_cut k h is = s.promise ∙ (ap read_ack is ∙ read_cut ack ack_both r.message a k took_ack h)

  ack_longer : (b : ℕ) (more : List ℕ) → s.message ≡ r.message ++ b ∷ more → s.answer ≡ Err Length
  unfolding read_ack
  ack_longer b more is = s.promise ∙ (ap read_ack is ∙ read-longer ack ack_both r.message a b more r.bytes took_ack)

message-numbers : (r : ReadAck) (e : Refusal) → r.answer ≡ Err e → ack_says (refusal_number e) ≡ true
unfolding read_ack
message-numbers r e h = read_says ack ack_says ack_numbers (λ n k. read_few n (ack_among n k)) ack_refusing r.message e (sym r.promise ∙ h)

-- ---- all of it

pub request_twelve : RequestTwelve
request_twelve = record {
  of_container = record {
    one_reading = λ r s e. r.promise ∙ (ap read_caps e ∙ sym s.promise);
    one_writing = caps_once;
    back = caps_written;
    same = caps_again;
    cut = λ r s a k e. caps_cut r s a e k;
    longer = λ r s a b more e. caps_longer r s a e b more;
    numbers = caps_numbers;
  };
  of_ack_cap = record {
    one_reading = λ r s e. r.promise ∙ (ap read_ack_cap e ∙ sym s.promise);
    one_writing = ack_cap_once;
    back = ack_cap_written;
    same = ack_cap_again;
    cut = λ r s a k e. ack_cap_cut r s a e k;
    longer = λ r s a b more e. ack_cap_longer r s a e b more;
    numbers = ack_cap_numbers;
  };
  of_ack = record {
    one_reading = λ r s e. r.promise ∙ (ap read_ack e ∙ sym s.promise);
    one_writing = ack_once;
    back = ack_written;
    same = ack_again;
    cut = λ r s a k e. ack_cut r s a e k;
    longer = λ r s a b more e. ack_longer r s a e b more;
    numbers = message-numbers;
  };
  entry_both = entry_both;
  capset_both = capset_both;
  block_both = block_both;
  container_both = container_both;
  ack_cap_both = ack_cap_both;
  ack_both = ack_both;
  entry_refuses = entry_refuses;
  capset_refuses = capset_refuses;
  block_refuses = block_refuses;
  container_refuses = container_refuses;
  ack_cap_refuses = ack_cap_refuses;
  ack_refuses = ack_refuses;
  too_many = caps_many;
  too_many_written = many_written;
}
