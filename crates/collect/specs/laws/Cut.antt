-- A call is the bytes that it took, one after the other; so the pieces in which they come make no difference.
use Rattle.std.specs.Prelude.{ℕ, zero, suc, ◌+◌, ◌≤◌, ◌<◌, ◌≡◌, refl, Bool, true, false, List, [], ◌∷◌, ◌++◌, length, get_or, drop}
use Rattle.std.proofs.Common.{ap, ap₂, sym, ◌∙◌, subst, true≢false, append_assoc, append-nil, zero-add, arith, length-append, drop_at, get_or-append-add}
use Rattle.std.proofs.Common.{eq-eqb, ne_eqb}
use Rattle.std.proofs.Math.Decide.{dec_lt}
use Rattle.std.proofs.Math.ListN.{get_or-append, get_or-eq_default}
use Rattle.whole.specs.laws.Row.{case_yes, case_no}
use Rattle.collect.specs.declared.Collected.{Collected}
use Rattle.wire.specs.laws.Refusal.{number_back}
use Rattle.wire.specs.declared.Refusal.{Refusal}
use Rattle.collect.specs.declared.Collected.TheVariants.{More, Header, Frame, Refused}
use Rattle.collect.specs.Collect.{State, Step, HandOver, Part, refused_by, step, took, byte, collector_made, collector_fault, goes_on, walk, collect_of}
use Rattle.collect.specs.Collect.{handed_on, parts_of, feed, handed}
use Rattle.collect.specs.laws.Made.{by_case, fault_few}
use Rattle.collect.specs.laws.Byte.{Says, Right, byte_right}
use Rattle.collect.specs.laws.Walk.{walk_first, followed_none, right_goes}
use Rattle.collect.specs.laws.Kept.{all, byte_all, byte_held}
use Rattle.collect.specs.Request.{Bytes, flat, unhanded, together, rest, after, Given, done, over, next, join, stop, Gives}

-- ---- a call of one byte, and bytes in a row

pub open_call : (s : State) (bs : List ℕ) → 0 ≡ collector_fault s.collector (length s.store) → collect_of s bs ≡ walk s 0 bs
unfolding collect_of
open_call s bs f = sym (case_yes _ _ _ _ (eq-eqb (collector_fault s.collector (length s.store)) 0 (sym f)) refl)

pub shut_call :
    (s : State) (bs : List ℕ)
    → (0 ≡ collector_fault s.collector (length s.store) → ⊥)
    → collect_of s bs ≡ took 0 (step s.collector s.store (refused_by (collector_fault s.collector (length s.store))))
unfolding collect_of
shut_call s bs z = sym (case_no _ _ _ _ (ne_eqb (collector_fault s.collector (length s.store)) 0 (λ q. z (sym q))) refl)

open_byte : (s : State) (b : ℕ) → 0 ≡ collector_fault s.collector (length s.store) → collect_of s (b ∷ []) ≡ took 1 (byte s b)
open_byte s b f = open_call s (b ∷ []) f ∙ walk_first s 0 b [] ∙ followed_none (took 1 (byte s b))

feed_append : (s : State) (a b : List ℕ) → feed s (a ++ b) ≡ feed (feed s a) b
unfolding feed
feed_append s [] b = refl
feed_append s (x ∷ a) b = feed_append (after s (x ∷ [])) a b

handed_append : (s : State) (a b : List ℕ) → handed s (a ++ b) ≡ handed s a ++ handed (feed s a) b
unfolding feed handed
handed_append s [] b = refl
handed_append s (x ∷ a) b =
    ap (λ (t : List Part). parts_of (collect_of s (x ∷ [])).step ++ t) (handed_append (after s (x ∷ [])) a b)
    ∙ sym (append_assoc (parts_of (collect_of s (x ∷ [])).step) (handed (after s (x ∷ [])) a) (handed (feed (after s (x ∷ [])) a) b))

nothing_fed : (s : State) → feed s [] ≡ s
unfolding feed
nothing_fed s = refl

nothing_handed : (s : State) → handed s [] ≡ []
unfolding handed
nothing_handed s = refl

nothing_held : (s : State) → flat [] ++ unhanded s ≡ unhanded s ++ []
unfolding flat
nothing_held s = sym (append-nil (unhanded s))

-- where a record takes nothing, bytes change nothing
shut_feed : (s : State) (bs : List ℕ) → (0 ≡ collector_fault s.collector (length s.store) → ⊥) → feed s bs ≡ s
unfolding feed
shut_feed s [] z = refl
shut_feed s (b ∷ bs) z = ap (λ (r : HandOver). feed r.step.state bs) (shut_call s (b ∷ []) z) ∙ shut_feed s bs z

shut_handed : (s : State) (bs : List ℕ) → (0 ≡ collector_fault s.collector (length s.store) → ⊥) → handed s bs ≡ []
unfolding handed
shut_handed s [] z = refl
shut_handed s (b ∷ bs) z =
    ap (λ (r : HandOver). parts_of r.step ++ handed r.step.state bs) (shut_call s (b ∷ []) z) ∙ shut_handed s bs z

-- ---- a call: the front of its bytes that it took, n having been taken before

abbrev pub hands_on : Collected → Bool
hands_on More = false
hands_on (Header n) = true
hands_on (Frame n) = true
hands_on (Refused n) = false

pub record FrontTaken (s : State) (n : ℕ) (bs : List ℕ) (r : HandOver) : Type 0 where
  pub front : List ℕ
  pub left : List ℕ
  pub cut : bs ≡ front ++ left
  pub count : r.taken ≡ n + length front
  pub fed : feed s front ≡ r.step.state
  pub parts : handed s front ≡ parts_of r.step
  pub kept : all r.step ≡ unhanded s ++ front
  pub good : true ≡ collector_made s.collector → true ≡ collector_made r.step.state.collector
  pub says : Says r.step.answer (collector_fault r.step.state.collector (length r.step.state.store))
  pub whole : goes_on r.step.answer ≡ true → left ≡ []
  pub some : hands_on r.step.answer ≡ true → 1 ≤ length front

no_parts : (a : Collected) (store : List ℕ) → goes_on a ≡ true → handed_on a store ≡ []
no_parts More store e = refl
no_parts (Header n) store e = absurd (true≢false (sym e))
no_parts (Frame n) store e = absurd (true≢false (sym e))
no_parts (Refused n) store e = absurd (true≢false (sym e))

-- a byte that goes on, and what follows it
longer :
    (s : State) (n b : ℕ) (bs : List ℕ) (r : HandOver)
    → 0 ≡ collector_fault s.collector (length s.store)
    → b < 256
    → goes_on (byte s b).answer ≡ true
    → FrontTaken (byte s b).state (n + 1) bs r
    → FrontTaken s n (b ∷ bs) r
unfolding feed handed
longer s n b bs r f l e q =
    let o = open_byte s b f in
    let none = no_parts (byte s b).answer (byte s b).state.store e in
    record {
      front = b ∷ q.front;
      left = q.left;
      cut = ap (λ (t : List ℕ). b ∷ t) q.cut;
      count = omega (arith, q.count);
      fed = ap (λ (c : HandOver). feed c.step.state q.front) o ∙ q.fed;
      parts =
          ap (λ (c : HandOver). parts_of c.step ++ handed c.step.state q.front) o
          ∙ ap (λ (t : List Part). t ++ handed (byte s b).state q.front) none
          ∙ q.parts;
      kept = q.kept ∙ ap (λ (x : List ℕ). x ++ q.front) (byte_held s b f l none) ∙ append_assoc (unhanded s) (b ∷ []) q.front;
      good = λ m. q.good (byte_right s b f l).good;
      says = q.says;
      whole = q.whole;
      some = λ x. omega arith;
    }

right_says : (room : ℕ) (t : Step) → Right room t → Says t.answer (collector_fault t.state.collector (length t.state.store))
right_says room t r = subst (λ (n : ℕ). Says t.answer (collector_fault t.state.collector n)) (sym r.kept) r.says

pub walk_front : (s : State) (n : ℕ) (bs : List ℕ) → 0 ≡ collector_fault s.collector (length s.store) → Bytes bs → FrontTaken s n bs (walk s n bs)
unfolding walk feed handed flat
walk_front s n [] f h =
    record {
      front = [];
      left = [];
      cut = refl;
      count = omega arith;
      fed = refl;
      parts = refl;
      kept = sym (append-nil (unhanded s));
      good = λ m. m;
      says = f;
      whole = λ e. refl;
      some = λ e. absurd (true≢false (sym e));
    }
walk_front s n (b ∷ bs) f h =
    let r = byte_right s b f (h 0) in
    by_case (FrontTaken s n (b ∷ bs)) (goes_on (byte s b).answer) (walk (byte s b).state (n + 1) bs) (took (n + 1) (byte s b))
    (λ e. longer s n b bs _ f (h 0) e (walk_front (byte s b).state (n + 1) bs (right_goes (length s.store) (byte s b) r e) (λ i. h (suc i))))
    (λ e.
    let o = open_byte s b f in
    record {
      front = b ∷ [];
      left = bs;
      cut = refl;
      count = refl;
      fed = ap (λ (c : HandOver). c.step.state) o;
      parts = append-nil (parts_of (collect_of s (b ∷ [])).step) ∙ ap (λ (c : HandOver). parts_of c.step) o;
      kept = byte_all s b f (h 0);
      good = λ m. r.good;
      says = right_says (length s.store) (byte s b) r;
      whole = λ g. absurd (true≢false (sym g ∙ e));
      some = λ g. omega arith;
    })

pub call_front : (s : State) (bs : List ℕ) → Bytes bs → FrontTaken s 0 bs (collect_of s bs)
call_front s bs h = by (dec_lt 0 (collector_fault s.collector (length s.store)))
  where
    by : Dec (0 < collector_fault s.collector (length s.store)) → FrontTaken s 0 bs (collect_of s bs)
    by (no p) =
        let z : 0 ≡ collector_fault s.collector (length s.store) = omega arith in
        subst (FrontTaken s 0 bs) (sym (open_call s bs z)) (walk_front s 0 bs z h)
    by (yes p) =
        subst (FrontTaken s 0 bs) (sym (shut_call s bs (λ z. omega arith)))
        (record {
          front = [];
          left = bs;
          cut = refl;
          count = refl;
          fed = nothing_fed s;
          parts = nothing_handed s;
          kept = nothing_held s;
          good = λ m. m;
          says = let k = number_back (collector_fault s.collector (length s.store)) p (fault_few s.collector (length s.store)) in (k, λ z. omega (arith, k, z));
          whole = λ e. absurd (true≢false (sym e));
          some = λ e. absurd (true≢false (sym e));
        })

-- ---- lists of bytes

bytes_front : (a b : List ℕ) → Bytes (a ++ b) → Bytes a
bytes_front a b h i = by (dec_lt i (length a))
  where
    by : Dec (i < length a) → get_or a i 0 < 256
    by (yes l) = subst (λ (x : ℕ). x < 256) (get_or-append a b 0 i l) (h i)
    by (no l) = let e : get_or a i 0 ≡ 0 = get_or-eq_default a 0 (omega arith) in omega arith

bytes_back : (a b : List ℕ) → Bytes (a ++ b) → Bytes b
bytes_back a b h i = subst (λ (x : ℕ). x < 256) (get_or-append-add a b i 0) (h (length a + i))

-- ---- pieces

-- a hand-over of a piece, before what is left to give
module _ (s : State) (p w : List ℕ) (h : Bytes (p ++ w)) where
  taken_of : FrontTaken s 0 p (collect_of s p)
  taken_of = call_front s p (bytes_front p w h)

  left_is : rest s p ≡ taken_of.left
  left_is =
      let q = taken_of in
      ap (drop (collect_of s p).taken) q.cut ∙ drop_at q.front q.left (collect_of s p).taken (sym (q.count ∙ zero-add (length q.front)))

  cut_is : p ++ w ≡ taken_of.front ++ (rest s p ++ w)
  cut_is =
      let q = taken_of in
      ap (λ (x : List ℕ). x ++ w) q.cut ∙ append_assoc q.front q.left w ∙ ap (λ (x : List ℕ). q.front ++ (x ++ w)) (sym left_is)

  over_feed : feed s (p ++ w) ≡ feed (after s p) (rest s p ++ w)
  over_feed =
      let q = taken_of in
      ap (feed s) cut_is ∙ feed_append s q.front (rest s p ++ w) ∙ ap (λ (t : State). feed t (rest s p ++ w)) q.fed

  over_handed : handed s (p ++ w) ≡ parts_of (collect_of s p).step ++ handed (after s p) (rest s p ++ w)
  over_handed =
      let q = taken_of in
      ap (handed s) cut_is ∙ handed_append s q.front (rest s p ++ w)
      ∙ ap₂ (λ (x : List Part) (t : State). x ++ handed t (rest s p ++ w)) q.parts q.fed

  over_bytes : Bytes (rest s p ++ w)
  over_bytes = bytes_back taken_of.front (rest s p ++ w) (subst Bytes cut_is h)

  -- a refused piece: nothing changes from then on
  refused_shut : (n : Refusal) → (collect_of s p).step.answer ≡ Refused n → 0 ≡ collector_fault (after s p).collector (length (after s p).store) → ⊥
  refused_shut n e =
      let t = subst (λ (a : Collected). Says a (collector_fault (after s p).collector (length (after s p).store))) e taken_of.says in
      λ z. t.1 (z ∙ sym t.0)

-- what pieces come to is what their bytes come to
pub record Comes (s t : State) (bs : List ℕ) (hs : List Part) : Type 0 where
  pub state : t ≡ feed s bs
  pub parts : hs ≡ handed s bs

pub given_comes : {s t : State} {ps : List (List ℕ)} {hs : List Part} → Given s ps hs t → Bytes (together ps) → Comes s t (together ps) hs
unfolding together
given_comes {s} done h = record { state = sym (nothing_fed s); parts = sym (nothing_handed s) }
given_comes {s} {t} (over {p = p} {ps = ps} g) h =
    let w = together ps in
    let c = given_comes g (over_bytes s p w h) in
    record {
      state = c.state ∙ sym (over_feed s p w h);
      parts = ap (λ (x : List Part). parts_of (collect_of s p).step ++ x) c.parts ∙ sym (over_handed s p w h);
    }
given_comes (next g) h = given_comes g h
given_comes {s} {t} {ps} {hs} (join {p = p} {q = q} {ps = qs} g) h =
    let e = append_assoc p q (together qs) in
    subst (λ (x : List ℕ). Comes s t x hs) e (given_comes g (subst Bytes (sym e) h))
given_comes {s} {t} (stop {p = p} {ps = ps} n e g) h =
    let w = together ps in
    let c = given_comes g (bytes_back p w h) in
    let z = refused_shut s p w h n e in
    record {
      state = c.state ∙ shut_feed (after s p) w z ∙ sym (shut_feed (after s p) (rest s p ++ w) z) ∙ sym (over_feed s p w h);
      parts =
          c.parts ∙ shut_handed (after s p) w z ∙ sym (shut_handed (after s p) (rest s p ++ w) z)
          ∙ ap (λ (a : Collected). handed_on a (after s p).store ++ handed (after s p) (rest s p ++ w)) (sym e)
          ∙ sym (over_handed s p w h);
    }

pub cut_anyhow :
    {s t u : State} {ps qs : List (List ℕ)} {hs ks : List Part}
    → Given s ps hs t
    → Given s qs ks u
    → together ps ≡ together qs
    → Bytes (together ps)
    → (hs ≡ ks) × (t ≡ u)
cut_anyhow {s} g k e h =
    let a = given_comes g h in
    let b = given_comes k (subst Bytes e h) in
    (a.parts ∙ ap (handed s) e ∙ sym b.parts, a.state ∙ ap (feed s) e ∙ sym b.state)

-- ---- every list of pieces can be given

give_on : {s : State} {p : List ℕ} {ps : List (List ℕ)} → Gives (after s p) (rest s p ∷ ps) → Gives s (p ∷ ps)
give_on {s} {p} g = record { parts = parts_of (collect_of s p).step ++ g.parts; end = g.end; given = over g.given }

give_next : {s : State} {p : List ℕ} {ps : List (List ℕ)} → p ≡ [] → Gives s ps → Gives s (p ∷ ps)
give_next {s} {p} {ps} e g = subst (λ (x : List ℕ). Gives s (x ∷ ps)) (sym e) (record { parts = g.parts; end = g.end; given = next g.given })

give_stop : {s : State} {p : List ℕ} {ps : List (List ℕ)} (n : Refusal) → (collect_of s p).step.answer ≡ Refused n → Gives (after s p) ps → Gives s (p ∷ ps)
give_stop n e g = record { parts = g.parts; end = g.end; given = stop n e g.given }

shorter : (s : State) (p w : List ℕ) → Bytes (p ++ w) → hands_on (collect_of s p).step.answer ≡ true → length (rest s p) < length p
shorter s p w h e =
    let q = taken_of s p w h in
    let l = q.some e in
    let m = ap length (left_is s p w h) in
    omega (arith, ap length q.cut ∙ length-append q.front q.left)

-- a piece, by what its first call answers; those after it can be given, and so can a shorter one
give_answer :
    (s : State) (p : List ℕ) (ps : List (List ℕ))
    → Bytes (p ++ together ps)
    → ((t : State) → Gives t ps)
    → ((t : State) (q : List ℕ) → length q < length p → Bytes (q ++ together ps) → Gives t (q ∷ ps))
    → (a : Collected)
    → (collect_of s p).step.answer ≡ a
    → Gives s (p ∷ ps)
give_answer s p ps h k less More e =
    give_on (give_next (left_is s p (together ps) h ∙ (taken_of s p (together ps) h).whole (ap goes_on e)) (k (after s p)))
give_answer s p ps h k less (Header n) e =
    give_on (less (after s p) (rest s p) (shorter s p (together ps) h (ap hands_on e)) (over_bytes s p (together ps) h))
give_answer s p ps h k less (Frame n) e =
    give_on (less (after s p) (rest s p) (shorter s p (together ps) h (ap hands_on e)) (over_bytes s p (together ps) h))
give_answer s p ps h k less (Refused n) e = give_stop n e (k (after s p))

give_piece :
    (n : ℕ) (s : State) (p : List ℕ) (ps : List (List ℕ)) → length p < n → Bytes (p ++ together ps) → ((t : State) → Gives t ps) → Gives s (p ∷ ps)
give_piece zero s p ps l h k = absurd (omega arith)
give_piece (suc n) s p ps l h k = give_answer s p ps h k (λ t q m b. give_piece n t q ps (omega arith) b k) _ refl

pub give_all : (s : State) (ps : List (List ℕ)) → Bytes (together ps) → Gives s ps
unfolding together
give_all s [] h = record { parts = []; end = s; given = done }
give_all s (p ∷ ps) h = give_piece (suc (length p)) s p ps (omega arith) h (λ t. give_all t ps (bytes_back p (together ps) h))
