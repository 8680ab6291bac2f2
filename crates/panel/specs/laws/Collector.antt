-- The collector's call for C is the collector's own: its promise follows from that call's answer and gives it back, so what 02 says of the collector holds
-- of it too. And it leaves one record, one store and one value of each number.
-- (01 is this project's scope document, 02 its change requests, 001 is MS-RDPRFX: README, "What 01 is".)
use Rattle.std.specs.Prelude.{ℕ, zero, suc, ◌≡◌, refl, List}
use Rattle.std.proofs.Common.{ap, ◌∙◌, sym}
use Rattle.wire.specs.Refusal.{refusal_of}
use Rattle.wire.specs.laws.Refusal.{number_pos, refusal_back}
use Rattle.collect.specs.declared.Collector.{Collector}
use Rattle.collect.specs.declared.Collected.{Collected}
use Rattle.collect.specs.declared.Collected.TheVariants.{More, Header, Frame, Refused}
use Rattle.collect.specs.declared.Took.{Took}
use Rattle.collect.specs.Collect.{HandOver, state, step, took, said}
use Rattle.collect.specs.Request.{Bytes}
use Rattle.collect.specs.laws.Byte.{Says}
use Rattle.collect.specs.laws.Cut.{call_front}
use Rattle.panel.specs.Collector.{collected_number, collected_call, collected_size, answer_of, hand_over, CollectCall}

pub collect-call :
    (c : Collector) (bytes store store' : List ℕ) (call size n : ℕ) (t : Took) → said t store' ≡ hand_over c bytes store →
    call ≡ collected_call t.answer → size ≡ collected_size t.answer → n ≡ collected_number t.answer →
    CollectCall c t.collector bytes store store' call size t.taken n
collect-call c bytes store store' call size n t e f g h =
    record {
      number = h ∙ ap (λ (x : HandOver). collected_number x.step.answer) e;
      goes = f ∙ ap (λ (x : HandOver). collected_call x.step.answer) e;
      long = g ∙ ap (λ (x : HandOver). collected_size x.step.answer) e;
      took = ap (λ (x : HandOver). x.taken) e;
      collector = ap (λ (x : HandOver). x.step.state.collector) e;
      left = ap (λ (x : HandOver). x.step.state.store) e;
    }

-- the three numbers are one answer's: no refusal is 0
refused_at : (n call size : ℕ) → (n ≡ 0 → ⊥) → answer_of n call size ≡ Refused (refusal_of n)
refused_at zero call size h = absurd (h refl)
refused_at (suc n) call size h = refl

told_by : (a : Collected) (fault : ℕ) → Says a fault → answer_of (collected_number a) (collected_call a) (collected_size a) ≡ a
told_by More fault e = refl
told_by (Header n) fault e = refl
told_by (Frame n) fault e = refl
told_by (Refused refusal) fault e = refused_at _ 0 0 (number_pos refusal) ∙ ap Refused (refusal_back refusal)

pub told :
    (c c' : Collector) (bytes store store' : List ℕ) (call size taken n : ℕ) → Bytes bytes → CollectCall c c' bytes store store' call size taken n →
    (n ≡ collected_number (hand_over c bytes store).step.answer) × (answer_of n call size ≡ (hand_over c bytes store).step.answer)
told c c' bytes store store' call size taken n h p =
    let a = (hand_over c bytes store).step.answer in (
      p.number,
      ap (λ (k : ℕ). answer_of k call size) p.number ∙
          (ap (λ (k : ℕ). answer_of (collected_number a) k size) p.goes ∙
          (ap (answer_of (collected_number a) (collected_call a)) p.long ∙ told_by a _ (call_front (state c store) bytes h).says)),
    )

-- the collector's own answer, of bytes: by what C is told and what is left in memory
pub as_collect :
    (c c' : Collector) (bytes store store' : List ℕ) (call size taken n : ℕ) → Bytes bytes → CollectCall c c' bytes store store' call size taken n →
    (n ≡ collected_number (hand_over c bytes store).step.answer) ×
    (said (record { collector = c'; taken = taken; answer = answer_of n call size }) store' ≡ hand_over c bytes store)
as_collect c c' bytes store store' call size taken n h p =
    let x = hand_over c bytes store in (
      p.number,
      ap (λ (a : Collected). took taken (step c' store' a)) (told c c' bytes store store' call size taken n h p).1 ∙
          (ap (λ (d : Collector). took taken (step d store' x.step.answer)) p.collector ∙
          (ap (λ (l : List ℕ). took taken (step x.step.state.collector l x.step.answer)) p.left ∙
          ap (λ (k : ℕ). took k x.step) p.took)),
    )

-- one answer
pub record Same (c₁ c₂ : Collector) (store₁ store₂ : List ℕ) (call₁ call₂ size₁ size₂ taken₁ taken₂ n₁ n₂ : ℕ) : Type 0 where
  pub collector : c₁ ≡ c₂
  pub left : store₁ ≡ store₂
  pub goes : call₁ ≡ call₂
  pub long : size₁ ≡ size₂
  pub took : taken₁ ≡ taken₂
  pub number : n₁ ≡ n₂

pub one_answer :
    (c c₁ c₂ : Collector) (bytes store store₁ store₂ : List ℕ) (call₁ call₂ size₁ size₂ taken₁ taken₂ n₁ n₂ : ℕ) →
    CollectCall c c₁ bytes store store₁ call₁ size₁ taken₁ n₁ → CollectCall c c₂ bytes store store₂ call₂ size₂ taken₂ n₂ →
    Same c₁ c₂ store₁ store₂ call₁ call₂ size₁ size₂ taken₁ taken₂ n₁ n₂
one_answer c c₁ c₂ bytes store store₁ store₂ call₁ call₂ size₁ size₂ taken₁ taken₂ n₁ n₂ p q =
    record {
      collector = p.collector ∙ sym q.collector;
      left = p.left ∙ sym q.left;
      goes = p.goes ∙ sym q.goes;
      long = p.long ∙ sym q.long;
      took = p.took ∙ sym q.took;
      number = p.number ∙ sym q.number;
    }
