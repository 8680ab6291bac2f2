-- A head by itself, in bytes: fewer than six wait beside the store; six that are refused are taken, stay beside it, and have the number of the first fault.
use Rattle.std.specs.Prelude.{ℕ, ◌+◌, ◌^◌, ◌≤◌, ◌<◌, ◌≡◌, refl, List, [], ◌∷◌, ◌++◌, ◌⊎◌, leb, length}
use Rattle.std.proofs.Common.{ap, ap₂, sym, ◌∙◌, subst, inl, inr, le-leb}
use native.Mathlib.Omega.{arith}
use Rattle.std.proofs.lemmas.Bool.{lt-leb}
use Rattle.whole.specs.Row.{◌!◌⨾◌}
use Rattle.whole.specs.laws.Row.{passes, fails}
use Rattle.collect.specs.declared.Collector.{Collector}
use Rattle.collect.specs.declared.Collected.TheVariants.{More}
use Rattle.collect.specs.Collect.{State, HandOver, refused_by, waiting, refusing, joined, type_of, len_of, head_fault, state, step, took, walk}
use Rattle.collect.specs.laws.Made.{opened, waits, same_waiting}
use Rattle.collect.specs.laws.Walk.{followed, walk_first, walk_on, walk_append, stops_at}
use Rattle.collect.specs.laws.Code.{head_waits, done_bad}
use Rattle.collect.specs.laws.Cut.{open_call}
use Rattle.collect.specs.laws.Block.{walk_none, head_whole, head_of, head_type, head_len, head-bytes}
use Rattle.collect.specs.Request.{head_bytes_of, Head, BetweenBlocks, HeadRefused, HeadWaits}

-- ---- fewer than six bytes

-- a record that has taken n bytes of a head in a walk, and waits
record Waiting (s : State) (n : ℕ) (bs : List ℕ) (r : HandOver) : Type 0 where
  answer : r.step.answer ≡ More
  taken : r.taken ≡ n + length bs
  store : r.step.state.store ≡ s.store
  held : r.step.state.collector.held ≡ s.collector.held
  seen : r.step.state.collector.seen ≡ s.collector.seen + length bs

few_walk : (s : State) (n : ℕ) (bs : List ℕ) → s.collector.end ≡ 0 → s.collector.seen + length bs < 6 → Waiting s n bs (walk s n bs)
few_walk s n [] e l =
    subst (Waiting s n []) (sym (walk_none s.collector s.store n))
    (record { answer = refl; taken = omega arith; store = refl; held = refl; seen = omega arith })
few_walk s n (b ∷ bs) e l =
    let c = s.collector in
    let d = joined c.head c.seen b in
    let t = state (waiting c.part c.held (c.seen + 1) d) s.store in
    let w = few_walk t (n + 1) bs refl (omega arith) in
    let same : walk t (n + 1) bs ≡ walk s n (b ∷ bs) =
    sym
    (walk_first s n b bs
    ∙ ap (λ (r : HandOver). followed r bs) (sym (head_waits s b d (n + 1) e (omega arith) refl))
    ∙ walk_on t.collector s.store bs (n + 1)) in
    let a = w.taken in
    let z = w.seen in
    subst (Waiting s n (b ∷ bs)) same (record { answer = w.answer; taken = omega arith; store = w.store; held = w.held; seen = omega arith })

pub few_wait : (s : State) (bs : List ℕ) → BetweenBlocks s → s.collector.seen + length bs < 6 → HeadWaits s bs
few_wait s bs b l =
    let w = subst (Waiting s 0 bs) (sym (open_call s bs b.takes)) (few_walk s 0 bs b.no_block l) in
    let a = w.taken in
    record { answer = w.answer; taken = omega arith; store = w.store; held = w.held; seen = w.seen }

-- ---- six bytes that are refused

-- between blocks with no byte of a head
no_head : (s : State) → BetweenBlocks s → s.collector.seen ≡ 0 → s.collector ≡ waiting s.collector.part s.collector.held 0 0
no_head s b z =
    let c = s.collector in
    let o = opened c (length s.store) b.takes in
    let w = waits c o.good b.no_block o.free in
    let g : c.head ≡ 0 = (let x = subst (λ (n : ℕ). c.head < 256 ^ n) z w.small in omega arith) in
    sym (same_waiting c b.no_block o.free) ∙ ap₂ (λ (x y : ℕ). waiting c.part c.held x y) z g

module _ (s : State) (kind size : ℕ) (more : List ℕ) (b : BetweenBlocks s) (z : s.collector.seen ≡ 0) where
  -- a head with a fault
  pub refused_with :
      (n : ℕ) → Head kind size → n ≡ head_fault s.collector.held (head_of kind size) (length s.store) → (n ≡ 0 → ⊥) → HeadRefused n s kind size more
  refused_with n h f y =
      let p = s.collector.part in
      let q = s.collector.held in
      let d = head_of kind size in
      let k = h.kind_small in
      let m = h.size_small in
      open_call s (head_bytes_of kind size ++ more) b.takes
      ∙ ap (λ (x : Collector). walk (state x s.store) 0 (head_bytes_of kind size ++ more)) (no_head s b z)
      ∙ walk_append (state (waiting p q 0 0) s.store) 0 (head_bytes_of kind size) more
      ∙ ap (λ (r : HandOver). followed r more)
      (ap (walk (state (waiting p q 0 0) s.store) 0) (head-bytes kind size k)
      ∙ head_whole p q d 0 s.store (omega arith) ∙ sym (done_bad n _ p q d 6 s.store f y))
      ∙ stops_at (took 6 (step (refusing n p q d) s.store (refused_by n))) more refl

  pub type_refused : Head kind size → (kind < 0xCCC0) ⊎ (0xCCC7 < kind) → HeadRefused 3 s kind size more
  unfolding head_fault
  type_refused h (inl l) =
      let e = head_type kind size h.kind_small in
      refused_with 3 h (fails _ _ _ _ (lt-leb 0xCCC0 (type_of (head_of kind size)) (omega arith)) refl) (λ q. omega arith)
  type_refused h (inr l) =
      let e = head_type kind size h.kind_small in
      refused_with 3 h (passes _ _ _ _ (le-leb 0xCCC0 (type_of (head_of kind size)) (omega arith))
      (fails _ _ _ _ (lt-leb (type_of (head_of kind size)) 0xCCC7 (omega arith)) refl)) (λ q. omega arith)

  -- of a known type
  module _ (low : 0xCCC0 ≤ kind) (high : kind ≤ 0xCCC7) where
    known_type : (n rest : ℕ) → n ≡ rest → n ≡ (leb 0xCCC0 (type_of (head_of kind size)) ! 3 ⨾ leb (type_of (head_of kind size)) 0xCCC7 ! 3 ⨾ rest)
    known_type n rest e =
        let f = head_type kind size (omega arith) in
        passes _ _ _ _ (le-leb 0xCCC0 (type_of (head_of kind size)) (omega arith))
        (passes _ _ _ _ (le-leb (type_of (head_of kind size)) 0xCCC7 (omega arith)) e)

    pub length_refused : size < 6 → HeadRefused 4 s kind size more
    unfolding head_fault
    length_refused l =
        let f = head_len kind size (omega arith) in
        refused_with 4 (record { kind_small = omega arith; size_small = omega arith })
        (known_type 4 _ (fails _ _ _ _ (lt-leb 6 (len_of (head_of kind size)) (omega arith)) refl)) (λ q. omega arith)

    pub room_refused : Head kind size → 6 ≤ size → length s.store < s.collector.held + size → HeadRefused 13 s kind size more
    unfolding head_fault
    room_refused h l m =
        let f = head_len kind size (omega arith) in
        refused_with 13 h
        (known_type 13 _ (passes _ _ _ _ (le-leb 6 (len_of (head_of kind size)) (omega arith))
        (fails _ _ _ _ (lt-leb (s.collector.held + len_of (head_of kind size)) (length s.store) (omega arith)) refl))) (λ q. omega arith)
