-- All that specs/Request states is so.
use Rattle.std.specs.Prelude.{ℕ, zero, suc, ◌≡◌, Bool, true, false, List, [], ◌++◌, leb, length, take}
use Rattle.std.proofs.Common.{ap, sym, ◌∙◌, subst, zero-add, take_at}
use Rattle.whole.specs.Row.{◌!◌⨾◌, ◌⨟◌}
use Rattle.collect.specs.declared.Collector.{Collector}
use Rattle.collect.specs.declared.Collected.{Collected}
use Rattle.wire.specs.Refusal.{refusal_number}
use Rattle.wire.specs.laws.Refusal.{number_one}
use Rattle.wire.specs.declared.Refusal.{Refusal}
use Rattle.wire.specs.declared.Refusal.TheVariants.{Buffer}
use Rattle.collect.specs.declared.Collected.TheVariants.{More, Refused}
use Rattle.collect.specs.declared.Took.{Took}
use Rattle.collect.specs.Collect.{State, HandOver, fresh, state, step, took, said, collector_made, collector_fault, walk, collect_of, parts_of}
use Rattle.collect.specs.laws.Made.{takes, open_fresh}
use Rattle.collect.specs.laws.Byte.{Says}
use Rattle.collect.specs.laws.Code.{call_refused}
use Rattle.collect.specs.laws.Cut.{call_front, open_call, cut_anyhow, give_all}
use Rattle.collect.specs.laws.Block.{alone_handed, frame_handed}
use Rattle.collect.specs.laws.Head.{few_wait, type_refused, length_refused, room_refused}
use Rattle.collect.specs.laws.Reach.{made_by_call}
use Rattle.collect.specs.Request.{Bytes, after, flat, unhanded, RequestOne}

abbrev took_of : HandOver → Took
took_of r = record { collector = r.step.state.collector; taken = r.taken; answer = r.step.answer }

answer_once : (s : State) (bs out out' : List ℕ) (r r' : Took) → said r out ≡ collect_of s bs → said r' out' ≡ collect_of s bs → (r ≡ r') × (out ≡ out')
answer_once s bs out out' r r' e f = let q = e ∙ sym f in (ap took_of q, ap (λ (c : HandOver). c.step.state.store) q)

lost_none :
    (s : State) (bs : List ℕ) → Bytes bs → flat (parts_of (collect_of s bs).step) ++ unhanded (after s bs) ≡ unhanded s ++ take (collect_of s bs).taken bs
lost_none s bs h =
    let q = call_front s bs h in
    let n = (collect_of s bs).taken in
    q.kept ∙ ap (λ (x : List ℕ). unhanded s ++ x)
    (sym (ap (take n) q.cut ∙ take_at q.front q.left n (sym (q.count ∙ zero-add (length q.front)))))

empty_call : (s : State) → 0 ≡ collector_fault s.collector (length s.store) → collect_of s [] ≡ took 0 (step s.collector s.store More)
unfolding walk
empty_call s f = open_call s [] f

-- a record's fault that is not the store's does not depend on the store
fault_row :
    (m : Bool) (r n : ℕ) (a b c d : Bool)
    → n ≡ (m ! 12 ⨾ (r ⨟ (a ! 2 ⨾ b ! 2 ⨾ 0)))
    → (0 ≡ n → ⊥)
    → (n ≡ 2 → ⊥)
    → n ≡ (m ! 12 ⨾ (r ⨟ (c ! 2 ⨾ d ! 2 ⨾ 0)))
unfolding ◌!◌⨾◌ ◌⨟◌
fault_row false r n a b c d e z t = e
fault_row true (suc r) n a b c d e z t = e
fault_row true zero n true true c d e z t = absurd (z (sym e))
fault_row true zero n true false c d e z t = absurd (t e)
fault_row true zero n false b c d e z t = absurd (t e)

fault_stays : (c : Collector) (room other n : ℕ) → n ≡ collector_fault c room → (0 ≡ n → ⊥) → (n ≡ 2 → ⊥) → n ≡ collector_fault c other
unfolding collector_fault
fault_stays c room other n e z t =
    fault_row (collector_made c) c.refused n (leb c.held room) (leb c.end room) (leb c.held other) (leb c.end other) e z t

refused_on :
    (s : State) (bs store cs : List ℕ) (refusal : Refusal)
    → Bytes bs
    → (collect_of s bs).step.answer ≡ Refused refusal
    → (refusal ≡ Buffer → ⊥)
    → collect_of (state (after s bs).collector store) cs ≡ took 0 (step (after s bs).collector store (Refused refusal))
refused_on s bs store cs refusal h e t =
    let c = (after s bs).collector in
    let q = subst (λ (a : Collected). Says a (collector_fault c (length (after s bs).store))) e (call_front s bs h).says in
    let other = fault_stays c (length (after s bs).store) (length store) (refusal_number refusal) q.0 q.1 (λ z. t (number_one refusal Buffer z)) in
    sym (call_refused (state c store) cs refusal other)

pub request_one : RequestOne
request_one =
    record {
      one_answer = answer_once;
      block = alone_handed;
      frame = frame_handed;
      head_waits = few_wait;
      wrong_type = λ s kind size more b z h t. type_refused s kind size more b z h t;
      wrong_length = λ s kind size more b z l h t. length_refused s kind size more b z l h t;
      no_room = λ s kind size more b z h l m t f. room_refused s kind size more b z l m h t f;
      nothing_lost = lost_none;
      however_cut = cut_anyhow;
      can_be_given = give_all;
      empty = empty_call;
      refusal_stays = refused_on;
      reset_takes = λ room. takes fresh room (open_fresh room);
      made_fresh = (open_fresh 0).good;
      made_stays = λ s bs h m. (call_front s bs h).good m;
      made_reached = made_by_call;
    }
