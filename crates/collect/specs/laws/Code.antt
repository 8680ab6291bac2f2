-- One law for each way through the code, in plain variables.
use Rattle.std.specs.Prelude.{ℕ, suc, ◌+◌, ◌-◌, ◌*◌, ◌^◌, ◌≤◌, ◌<◌, ◌≡◌, true, set}
use Rattle.std.proofs.Math.Path.{refl, ap}
use Rattle.std.proofs.Common.{ap₂, sym, ◌∙◌, subst, mul-le-mul_right, add-one, take-append-drop, drop-cons, drop-drop, get_or-drop, eq-eqb, ne_eqb, lt-ltb}
use Rattle.std.proofs.Common.{le-ltb}
use mathlib.Core.List.{List, ◌∷◌, ◌++◌, append_assoc}
use Rattle.std.proofs.Math.Nat.{add-zero}
use native.Mathlib.Omega.{arith}
use Rattle.std.proofs.Math.ListN.{length, get_or, take, drop, length-drop}
use Rattle.std.proofs.Math.Seq.{length-take-le, paste, paste-suc}
use Rattle.std.proofs.lemmas.List.Edits.{length-paste}
use Rattle.wire.specs.Le.{le16, le32, bytes16, bytes32, patch}
use Rattle.whole.specs.Row.{◌⇒◌∣◌}
use Rattle.wire.specs.laws.Le.{patch_next, patch_length}
use Rattle.whole.specs.laws.Row.{case_yes, case_no}
use Rattle.collect.specs.declared.Collector.{Collector}
use Rattle.wire.specs.Refusal.{refusal_number, refusal_of as by_number}
use Rattle.wire.specs.laws.Refusal.{number_pos, refusal_back}
use Rattle.wire.specs.declared.Refusal.{Refusal}
use Rattle.collect.specs.declared.Collected.TheVariants.{More, Refused}
use Rattle.collect.specs.Collect.{State, HandOver, refused_by, waiting, refusing, joined, type_of, len_of, head_fault, part_after, state, step, took, settled}
use Rattle.collect.specs.Collect.{head_done, head_byte, byte, goes_on, walk, collect_of, collector_fault}
use Rattle.collect.specs.laws.Made.{ends_on, opened, waits, gathers, same_waiting}
use Rattle.collect.specs.laws.Byte.{six_bytes, settled_right, done_right, byte_right}
use Rattle.collect.specs.laws.Walk.{followed, walk_first, walk_append, block_part, right_goes}

-- ---- a copy

module _ (store bytes : List ℕ) (at from n : ℕ) (room : at + n ≤ length store) (there : from + n ≤ length bytes) where
  pub copy_length : (i : ℕ) → i ≤ n → length (paste store at (drop from bytes) i) ≡ length store
  copy_length i l = length-paste store at (drop from bytes) i (omega arith) (let d = length-drop from bytes in omega arith)

  pub copy_next :
      (i : ℕ) (out : List ℕ)
      → i < n
      → out ≡ paste store at (drop from bytes) i
      → set out (at + i) (get_or bytes (from + i) 0) ≡ paste store at (drop from bytes) (i + 1)
  copy_next i out l e =
      ap₂ (λ (x : List ℕ) (v : ℕ). set x (at + i) v) e (sym (get_or-drop from bytes i 0))
      ∙ paste-suc store at (drop from bytes) i 0 (omega arith) (let d = length-drop from bytes in omega arith)
      ∙ ap (paste store at (drop from bytes)) (sym (add-one i))

  pub copy_whole : (i : ℕ) (out : List ℕ) → i ≡ n → out ≡ paste store at (drop from bytes) i → out ≡ patch store at (take n (drop from bytes))
  unfolding patch
  copy_whole i out q e =
      let k : length (take n (drop from bytes)) ≡ n = length-take-le n (drop from bytes) (let d = length-drop from bytes in omega arith) in
      e ∙ ap (paste store at (drop from bytes)) q
      ∙ append_assoc (take at store) (take n (drop from bytes)) (drop (at + n) store)
      ∙ ap (λ (j : ℕ). take at store ++ (take n (drop from bytes) ++ drop (at + j) store)) (sym k)

-- ---- a head

pub weighed : (w b : ℕ) → w ≤ 281474976710656 → b < 256 → w * b ≤ 71776119061217280
weighed w b p q = let a : w * b ≤ 281474976710656 * b = mul-le-mul_right b p in omega arith

pub joined_is : (head seen b w v : ℕ) → w ≡ 256 ^ seen → v ≡ b → head + w * v ≡ joined head seen b
unfolding joined
joined_is d n b w v e f = ap₂ (λ (x y : ℕ). d + x * y) e f

pub head_waits :
    (s : State) (b head n : ℕ)
    → s.collector.end ≡ 0
    → s.collector.seen < 5
    → head ≡ joined s.collector.head s.collector.seen b
    → took n (step (waiting s.collector.part s.collector.held (s.collector.seen + 1) head) s.store More) ≡ took n (byte s b)
unfolding byte head_byte
head_waits s b d n e l j =
    let c = s.collector in
    ap (took n) (case_yes _ _ _ _ (eq-eqb c.end 0 e) (case_yes _ _ _ _ (lt-ltb (c.seen + 1) 6 (omega arith))
    (ap (λ (x : ℕ). step (waiting c.part c.held (c.seen + 1) x) s.store More) j)))

pub head_judged :
    (s : State) (b head n : ℕ) (r : HandOver)
    → s.collector.end ≡ 0
    → 5 ≤ s.collector.seen
    → head ≡ joined s.collector.head s.collector.seen b
    → r ≡ took n (head_done (head_fault s.collector.held head (length s.store)) s.collector.part s.collector.held head s.store)
    → r ≡ took n (byte s b)
unfolding byte head_byte
head_judged s b d n r e l j q =
    let c = s.collector in
    q ∙ ap (took n) (case_yes _ _ _ _ (eq-eqb c.end 0 e) (case_no _ _ _ _ (le-ltb (c.seen + 1) 6 (omega arith))
    (ap (λ (x : ℕ). head_done (head_fault c.held x (length s.store)) c.part c.held x s.store) j)))

-- the head's judge: f is what was found
pub done_bad :
    (f fault part held head n : ℕ) (store : List ℕ)
    → f ≡ fault
    → (f ≡ 0 → ⊥)
    → took n (step (refusing f part held head) store (refused_by f)) ≡ took n (head_done fault part held head store)
unfolding head_done
done_bad f fault p h d n store e z =
    ap (took n) (subst (λ (x : ℕ). step (refusing f p h d) store (refused_by f) ≡ head_done x p h d store) e (case_no _ _ _ _ (ne_eqb f 0 z) refl))

-- the same of the code's answer
pub done_refused :
    (refusal : Refusal) (fault part held head n : ℕ) (store : List ℕ)
    → refusal_number refusal ≡ fault
    → took n (step (refusing (refusal_number refusal) part held head) store (Refused refusal)) ≡ took n (head_done fault part held head store)
done_refused r fault p h d n store e =
    ap (λ (q : Refusal). took n (step (refusing (refusal_number r) p h d) store (Refused q))) (sym (refusal_back r))
    ∙ done_bad (refusal_number r) fault p h d n store e (number_pos r)

pub done_good :
    (f fault part held head n q : ℕ) (store first second : List ℕ) (r : HandOver)
    → f ≡ fault
    → f ≡ 0
    → held ≤ length store
    → first ≡ patch store held (bytes16 (type_of head))
    → second ≡ patch first (held + 2) (bytes32 (len_of head))
    → q ≡ part_after part (type_of head)
    → r ≡ took n (settled q (held + 6) (held + len_of head) second)
    → r ≡ took n (head_done fault part held head store)
unfolding head_done bytes16
done_good f fault p h d n q store first second r e z l a b g k =
    k
    ∙ ap₂ (λ (x : ℕ) (y : List ℕ). took n (settled x (h + 6) (h + len_of d) y)) g
    (patch_next first second store (bytes16 (type_of d)) (bytes32 (len_of d)) h (h + 2) a b refl l ∙ ap (patch store h) (six_bytes d))
    ∙ ap (took n) (case_yes _ _ _ _ (eq-eqb fault 0 (sym e ∙ z)) refl)

-- ---- a turn of the loop: it takes some of the bytes that are there, and the walk goes on where it leads

pub record Turned (s : State) (bytes : List ℕ) (at : ℕ) (r : HandOver) : Type 0 where
  pub same : walk s at (drop at bytes) ≡ followed r (drop r.taken bytes)
  pub goes : goes_on r.step.answer ≡ true → 0 ≡ collector_fault r.step.state.collector (length r.step.state.store)
  pub more : at < r.taken
  pub within : r.taken ≤ length bytes

-- by a byte
pub byte_turned :
    (s : State) (bytes : List ℕ) (at b : ℕ) (r : HandOver)
    → 0 ≡ collector_fault s.collector (length s.store)
    → at < length bytes
    → b ≡ get_or bytes at 0
    → b < 256
    → r ≡ took (at + 1) (byte s b)
    → Turned s bytes at r
byte_turned s bytes at b r f l e m q =
    subst (Turned s bytes at) (sym q)
    (record {
      same =
          ap (walk s at) (drop-cons bytes at 0 l ∙ ap₂ (λ (x n : ℕ). x ∷ drop n bytes) (sym e) (sym (add-one at))) ∙ walk_first s at b (drop (at + 1) bytes);
      goes = right_goes (length s.store) (byte s b) (byte_right s b f m);
      more = omega arith;
      within = omega arith;
    })

-- by all six bytes of a head
module _ (part held n at : ℕ) (store m : List ℕ) (there : at + 6 ≤ length m) where
  next_byte : (k : ℕ) → k < 6 → drop (at + k) m ≡ get_or m (at + k) 0 ∷ drop (at + (k + 1)) m
  next_byte k l =
      let e : suc (at + k) ≡ at + (k + 1) = omega arith in
      drop-cons m (at + k) 0 (omega arith) ∙ ap (λ (j : ℕ). get_or m (at + k) 0 ∷ drop j m) e

  waits_on :
      (k head : ℕ)
      → k < 5
      → walk (state (waiting part held k head) store) (n + k) (drop (at + k) m)
      ≡ walk (state (waiting part held (k + 1) (joined head k (get_or m (at + k) 0))) store) (n + (k + 1)) (drop (at + (k + 1)) m)
  unfolding followed goes_on ◌⇒◌∣◌
  waits_on k d l =
      let e : (n + k) + 1 ≡ n + (k + 1) = omega arith in
      let s = state (waiting part held k d) store in
      let b = get_or m (at + k) 0 in
      let xs = drop (at + (k + 1)) m in
      ap (walk s (n + k)) (next_byte k (omega arith))
      ∙ walk_first s (n + k) b xs
      ∙ ap (λ (r : HandOver). followed r xs) (sym (head_waits s b (joined d k b) ((n + k) + 1) refl l refl))
      ∙ ap (λ (j : ℕ). walk (state (waiting part held (k + 1) (joined d k b)) store) j xs) e

  judges_on :
      (head : ℕ) (d : ℕ)
      → d ≡ joined head 5 (get_or m (at + 5) 0)
      → walk (state (waiting part held 5 head) store) (n + 5) (drop (at + 5) m)
      ≡ followed (took (n + 6) (head_done (head_fault held d (length store)) part held d store)) (drop (at + 6) m)
  judges_on head d q =
      let e : (n + 5) + 1 ≡ n + 6 = omega arith in
      let s = state (waiting part held 5 head) store in
      let b = get_or m (at + 5) 0 in
      ap (walk s (n + 5)) (next_byte 5 (omega arith))
      ∙ walk_first s (n + 5) b (drop (at + 6) m)
      ∙ ap (λ (r : HandOver). followed r (drop (at + 6) m)) (sym (head_judged s b d ((n + 5) + 1) _ refl (omega arith) q refl))
      ∙ ap (λ (j : ℕ). followed (took j (head_done (head_fault held d (length store)) part held d store)) (drop (at + 6) m)) e

  six_is :
      le16 m at + 65536 * le32 m (at + 2)
      ≡ joined
      (joined (joined (joined (joined (joined 0 0 (get_or m (at + 0) 0)) 1 (get_or m (at + 1) 0)) 2 (get_or m (at + 2) 0)) 3 (get_or m (at + 3) 0)) 4
      (get_or m (at + 4) 0)) 5 (get_or m (at + 5) 0)
  unfolding joined le16 le32
  six_is =
      let a : (at + 2) + 1 ≡ at + 3 = omega arith in
      let b : (at + 2) + 2 ≡ at + 4 = omega arith in
      let c : (at + 4) + 1 ≡ at + 5 = omega arith in
      rw (a, b, c, add-zero at) (omega arith)

  pub six_walk :
      (d : ℕ)
      → d ≡ le16 m at + 65536 * le32 m (at + 2)
      → walk (state (waiting part held 0 0) store) n (drop at m)
      ≡ followed (took (n + 6) (head_done (head_fault held d (length store)) part held d store)) (drop (at + 6) m)
  six_walk d q =
      ap₂ (λ (j k : ℕ). walk (state (waiting part held 0 0) store) j (drop k m)) (sym (add-zero n)) (sym (add-zero at))
      ∙ waits_on 0 _ (omega arith) ∙ waits_on 1 _ (omega arith) ∙ waits_on 2 _ (omega arith) ∙ waits_on 3 _ (omega arith) ∙ waits_on 4 _ (omega arith)
      ∙ judges_on _ d (q ∙ six_is)

pub head_turned :
    (s : State) (bytes : List ℕ) (at d : ℕ) (r : HandOver)
    → 0 ≡ collector_fault s.collector (length s.store)
    → s.collector.end ≡ 0
    → s.collector.seen ≡ 0
    → at + 6 ≤ length bytes
    → d ≡ le16 bytes at + 65536 * le32 bytes (at + 2)
    → d < 281474976710656
    → r ≡ took (at + 6) (head_done (head_fault s.collector.held d (length s.store)) s.collector.part s.collector.held d s.store)
    → Turned s bytes at r
head_turned s bytes at d r f e z w i l q =
    let c = s.collector in
    let o = opened c (length s.store) f in
    let h = waits c o.good e o.free in
    let g : c.head ≡ 0 = (let x = subst (λ (n : ℕ). c.head < 256 ^ n) z h.small in omega arith) in
    let same = same_waiting c e o.free in
    subst (Turned s bytes at) (sym q)
    (record {
      same =
          ap (λ (x : Collector). walk (state x s.store) at (drop at bytes)) (sym same)
          ∙ ap₂ (λ (x y : ℕ). walk (state (waiting c.part c.held x y) s.store) at (drop at bytes)) z g
          ∙ six_walk c.part c.held at at s.store bytes w d i;
      goes = right_goes (length s.store) _ (done_right c.part c.held d s.store l h.place o.fits);
      more = omega arith;
      within = w;
    })

-- by bytes of the block under way
pub block_turned :
    (s : State) (bytes out : List ℕ) (at k : ℕ) (r : HandOver)
    → 0 ≡ collector_fault s.collector (length s.store)
    → (s.collector.end ≡ 0 → ⊥)
    → 1 ≤ k
    → k ≤ s.collector.end - s.collector.held
    → at + k ≤ length bytes
    → out ≡ patch s.store s.collector.held (take k (drop at bytes))
    → r ≡ took (at + k) (settled s.collector.part (s.collector.held + k) s.collector.end out)
    → Turned s bytes at r
block_turned s bytes out at k r f z p l w u q =
    let c = s.collector in
    let xs = take k (drop at bytes) in
    let o = opened c (length s.store) f in
    let g = gathers c o.good z in
    let x = g.least in
    let y = g.less in
    let v = o.ends in
    let n : length xs ≡ k = length-take-le k (drop at bytes) (let d = length-drop at bytes in omega arith) in
    let kept = patch_length s.store xs c.held (omega arith) in
    subst (Turned s bytes at) (sym (q ∙ ap₂ (λ (j : ℕ) (x : List ℕ). took (at + k) (settled c.part (c.held + j) c.end x)) (sym n) u))
    (record {
      same =
          ap (walk s at) (sym (take-append-drop k (drop at bytes)))
          ∙ walk_append s at xs (drop k (drop at bytes))
          ∙ ap₂ followed (block_part s at k xs n p (omega arith) v) (drop-drop k at bytes);
      goes =
          right_goes (length (patch s.store c.held xs)) _
          (settled_right c.part (c.held + length xs) c.end (patch s.store c.held xs) (omega arith) (omega arith) (omega arith)
          (ends_on c.part c.held c.end (length xs) g.kind));
      more = omega arith;
      within = w;
    })

-- ---- the call, by what was found of the record

pub call_refused :
    (s : State) (bs : List ℕ) (refusal : Refusal)
    → refusal_number refusal ≡ collector_fault s.collector (length s.store)
    → took 0 (step s.collector s.store (Refused refusal)) ≡ collect_of s bs
unfolding collect_of
call_refused s bs r e =
    case_no _ _ _ _ (ne_eqb (collector_fault s.collector (length s.store)) 0 (λ q. number_pos r (e ∙ q)))
    (ap (λ (q : Refusal). took 0 (step s.collector s.store (Refused q))) (sym (refusal_back r) ∙ ap by_number e))

pub call_goes : (s : State) (bs : List ℕ) → 0 ≡ collector_fault s.collector (length s.store) → walk s 0 bs ≡ collect_of s bs
unfolding collect_of
call_goes s bs e = case_yes _ _ _ _ (eq-eqb (collector_fault s.collector (length s.store)) 0 (sym e)) refl
