-- The six calls of capabilities and acknowledgements for C are those of `caps`: what C is told is that call's answer, so what 02 says of them
-- (`RequestTwelve`) holds of C's calls too. And each leaves one value of each number and one output.
-- (01 is this project's scope document, 02 its change requests, 001 is MS-RDPRFX: README, "What 01 is".)
use Rattle.std.specs.Prelude.{ℕ, zero, suc, ◌≤◌, ◌≡◌, refl, List, [], ◌∷◌, length, Result, Ok, Err}
use Rattle.std.proofs.Common.{ap, ap₂, ◌∙◌, sym}
use Rattle.wire.specs.Refusal.{number_of, count_of, refusal_of}
use Rattle.wire.specs.declared.Refusal.{Refusal}
use Rattle.wire.specs.laws.Refusal.{number_pos, refusal_back}
use Rattle.wire.specs.Wrote.{Wrote}
use Rattle.wire.specs.laws.Wrote.{answer_of, answer_wrote}
use Rattle.caps.specs.Walk.{Bytes}
use Rattle.whole.specs.Among.{among}
use Rattle.whole.specs.laws.Among.{numbers, each, among_most}
use Rattle.caps.specs.Caps.{read_caps, caps_fields, caps_of, caps_fault}
use Rattle.caps.specs.AckCap.{read_ack_cap, ack_cap_count, ack_cap_of, ack_cap_fault}
use Rattle.caps.specs.Ack.{read_ack, ack_fields, ack_of, ack_fault}
use Rattle.caps.specs.declared.Caps.{Caps}
use Rattle.caps.specs.declared.Ack.{Ack}
use Rattle.panel.specs.Edge.{WriterCall}
use Rattle.panel.specs.Capabilities.{caps_from, numbers_of, ReadCapsCall, ReadAckCapCall, ReadAckCall}

-- ---- the answer that a number and fields are

abbrev pub reading_of : {F : Type 0} → ℕ → F → Result F Refusal
reading_of zero fields = Ok fields
reading_of (suc n) fields = Err (refusal_of (suc n))

refused_at : {F : Type 0} (n : ℕ) (fields : F) → (n ≡ 0 → ⊥) → reading_of n fields ≡ Err (refusal_of n)
refused_at zero fields h = absurd (h refl)
refused_at (suc n) fields h = refl

-- no refusal is 0
refused_back : {F : Type 0} (refusal : Refusal) (fields : F) → reading_of (number_of {A = F} (Err refusal)) fields ≡ Err refusal
refused_back refusal fields = refused_at _ fields (number_pos refusal) ∙ ap Err (refusal_back refusal)

-- ---- the container

caps_is : (a : Result Caps Refusal) → reading_of (number_of a) (caps_fields a) ≡ a
caps_is (Ok c) = refl
caps_is (Err refusal) = refused_back refusal _

pub caps_told :
    (m : List ℕ) (flags n : ℕ) (entries : List ℕ) (number : ℕ) → Bytes m → ReadCapsCall m flags n entries number →
    (number ≡ number_of (read_caps m)) × (reading_of number (caps_from flags n entries) ≡ read_caps m)
caps_told m flags n entries number b p =
    let a = read_caps m in
    let c = caps_fields a in
    let f : caps_from flags n entries ≡ c =
    ap (λ (x : ℕ). caps_from x n entries) p.flags_are ∙ (ap (λ (x : ℕ). caps_from c.flags x entries) p.n_is ∙
    ap (caps_from c.flags c.n) p.entries_are) in
    (p.said, ap₂ reading_of p.said f ∙ caps_is a)

pub record SameCaps (flags flags' n n' : ℕ) (entries entries' : List ℕ) (number number' : ℕ) : Type 0 where
  pub flags_same : flags ≡ flags'
  pub n_same : n ≡ n'
  pub entries_same : entries ≡ entries'
  pub number_same : number ≡ number'

pub caps_once :
    (m : List ℕ) (flags flags' n n' : ℕ) (entries entries' : List ℕ) (number number' : ℕ) → ReadCapsCall m flags n entries number →
    ReadCapsCall m flags' n' entries' number' → SameCaps flags flags' n n' entries entries' number number'
caps_once m flags flags' n n' entries entries' number number' p q = record {
  flags_same = p.flags_are ∙ sym q.flags_are;
  n_same = p.n_is ∙ sym q.n_is;
  entries_same = p.entries_are ∙ sym q.entries_are;
  number_same = p.said ∙ sym q.said;
}

-- ---- the frame acknowledge capability

ack_cap_is : (a : Result ℕ Refusal) → reading_of (number_of a) (ack_cap_count a) ≡ a
ack_cap_is (Ok c) = refl
ack_cap_is (Err refusal) = refused_back refusal _

pub ack_cap_told :
    (m : List ℕ) (count number : ℕ) → Bytes m → ReadAckCapCall m count number →
    (number ≡ number_of (read_ack_cap m)) × (reading_of number count ≡ read_ack_cap m)
ack_cap_told m count number b p =
    (p.said, ap₂ reading_of p.said p.count_is ∙ ack_cap_is (read_ack_cap m))

pub ack_cap_once :
    (m : List ℕ) (count count' number number' : ℕ) → ReadAckCapCall m count number → ReadAckCapCall m count' number' → (count ≡ count') × (number ≡ number')
ack_cap_once m count count' number number' p q = (p.count_is ∙ sym q.count_is, p.said ∙ sym q.said)

-- ---- the frame acknowledge message

ack_is : (a : Result Ack Refusal) → reading_of (number_of a) (ack_fields a) ≡ a
ack_is (Ok c) = refl
ack_is (Err refusal) = refused_back refusal _

-- the nine numbers are those of the fields of that answer
pub ack_told :
    (m fields : List ℕ) (number : ℕ) → Bytes m → ReadAckCall m fields number →
    (fields ≡ numbers_of (ack_fields (read_ack m))) × (number ≡ number_of (read_ack m)) × (reading_of number (ack_fields (read_ack m)) ≡ read_ack m)
ack_told m fields number b p =
    (p.fields_are, p.said, ap (λ (n : ℕ). reading_of n (ack_fields (read_ack m))) p.said ∙ ack_is (read_ack m))

pub ack_once :
    (m fields fields' : List ℕ) (number number' : ℕ) → ReadAckCall m fields number → ReadAckCall m fields' number' → (fields ≡ fields') × (number ≡ number')
ack_once m fields fields' number number' p q = (p.fields_are ∙ sym q.fields_are, p.said ∙ sym q.said)

-- ---- the writers

module _ (fault : ℕ) (bytes out : List ℕ) where
  -- the answer of a writer that leaves this output, and says this size and this number
  pub writer_told :
      (out' : List ℕ) (size n : ℕ) (r : Result ℕ Refusal) → WriterCall fault bytes out out' size n → count_of r ≡ size → number_of r ≡ n →
      Wrote fault bytes out out' r
  writer_told out' size n r p e g = record { number = g ∙ p.number; said = e ∙ p.long; left = p.left }

  -- there is one
  pub writer_answer :
      (out' : List ℕ) (size n : ℕ) → fault ≤ 13 → WriterCall fault bytes out out' size n → Wrote fault bytes out out' (answer_of fault bytes)
  writer_answer out' size n u p = answer_wrote fault bytes out out' u p.left

  pub record SameWriting (a b : List ℕ) (size size' n n' : ℕ) : Type 0 where
    pub out_same : a ≡ b
    pub size_same : size ≡ size'
    pub number_same : n ≡ n'

  pub writer_once :
      (a b : List ℕ) (size size' n n' : ℕ) → WriterCall fault bytes out a size n → WriterCall fault bytes out b size' n' → SameWriting a b size size' n n'
  writer_once a b size size' n n' p q = record {
    out_same = p.left ∙ sym q.left;
    size_same = p.long ∙ sym q.long;
    number_same = p.number ∙ sym q.number;
  }

-- each of the three says one of 01's numbers, so its answer is one that the writer gives
caps_few : (c : Caps) (room : ℕ) → caps_fault c room ≤ 13
unfolding caps_fault among each
caps_few c room = among_most 13 {ks = 0 ∷ 5 ∷ 6 ∷ 13 ∷ []} (search numbers) refl

pub caps_wrote :
    (c : Caps) (out out' : List ℕ) (size n : ℕ) → WriterCall (caps_fault c (length out)) (caps_of c) out out' size n →
    Wrote (caps_fault c (length out)) (caps_of c) out out' (answer_of (caps_fault c (length out)) (caps_of c))
caps_wrote c out out' size n p = writer_answer _ _ out out' size n (caps_few c (length out)) p

ack_cap_few : (room : ℕ) → ack_cap_fault room ≤ 13
unfolding ack_cap_fault among each
ack_cap_few room = among_most 13 {ks = 0 ∷ 13 ∷ []} (search numbers) refl

pub ack_cap_wrote :
    (count : ℕ) (out out' : List ℕ) (size n : ℕ) → WriterCall (ack_cap_fault (length out)) (ack_cap_of count) out out' size n →
    Wrote (ack_cap_fault (length out)) (ack_cap_of count) out out' (answer_of (ack_cap_fault (length out)) (ack_cap_of count))
ack_cap_wrote count out out' size n p = writer_answer _ _ out out' size n (ack_cap_few (length out)) p

ack_few : (version room : ℕ) → ack_fault version room ≤ 13
unfolding ack_fault among each
ack_few version room = among_most 13 {ks = 0 ∷ 5 ∷ 13 ∷ []} (search numbers) refl

pub ack_wrote :
    (a : Ack) (out out' : List ℕ) (size n : ℕ) → WriterCall (ack_fault a.version (length out)) (ack_of a) out out' size n →
    Wrote (ack_fault a.version (length out)) (ack_of a) out out' (answer_of (ack_fault a.version (length out)) (ack_of a))
ack_wrote a out out' size n p = writer_answer _ _ out out' size n (ack_few a.version (length out)) p
