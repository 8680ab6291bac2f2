-- Records that calls could have made: what a good head, a head that waits and a block under way give; and a byte leads from a record that takes bytes to one
-- that takes bytes, unless it is refused.
use Rattle.std.specs.Prelude.{ℕ, zero, suc, ◌+◌, ◌-◌, ◌^◌, ◌≤◌, ◌<◌, ◌≡◌, refl, Bool, true, false, ◌⊎◌}
use Rattle.std.proofs.Common.{ap, ap₂, sym, ◌∙◌, true≢false, inl, inr, ⊎_elim, arith, ltb-true, ltb-false, leb-true, eqb-true, lt-ltb, le-ltb, le-leb, eq-eqb}
use Rattle.std.proofs.Common.{ne_eqb}
use Rattle.std.proofs.Math.Decide.{dec_lt}
use Rattle.std.proofs.lemmas.Bool.{eqb-false, lt-leb}
use Rattle.whole.specs.Row.{◌!◌⨾◌, ◌⇒◌∣◌, ◌⨟◌}
use Rattle.whole.specs.laws.Row.{passes, fails, held, case_yes, case_no, case_is, case_not, goes_on, both}
use Rattle.collect.specs.declared.Collector.{Collector}
use Rattle.collect.specs.Collect.{in_frame, at_end, outside, waiting, fresh, gathering, refusing, type_of, len_of, head_fault, part_after, between}
use Rattle.collect.specs.Collect.{refusal_of, made_waiting, may_end, made_gathering, collector_made, collector_fault}

-- ---- cases

-- what holds of both ways of a case holds of the case
pub by_case : {A : Type 0} (P : A → Type 0) (t : Bool) (x y : A) → (t ≡ true → P x) → (t ≡ false → P y) → P (t ⇒ x ∣ y)
unfolding ◌⇒◌∣◌
by_case P true x y p q = p refl
by_case P false x y p q = q refl

-- by which way a test came out true
which : (t a b : Bool) → true ≡ (t ⇒ a ∣ b) → ((t ≡ true) × (true ≡ a)) ⊎ ((t ≡ false) × (true ≡ b))
unfolding ◌⇒◌∣◌
which true a b e = inl (refl, e)
which false a b e = inr (refl, e)

-- ---- a head

pub record HeadGood (held head room : ℕ) : Type 0 where
  pub low : 0xCCC0 ≤ type_of head
  pub high : type_of head ≤ 0xCCC7
  pub least : 6 ≤ len_of head
  pub fits : held + len_of head ≤ room

pub head_good : (held head room : ℕ) → 0 ≡ head_fault held head room → HeadGood held head room
unfolding head_fault
head_good h head room e =
    let a = held _ _ _ _ (λ q. omega arith) e in
    let b = held _ _ _ _ (λ q. omega arith) a.1 in
    let c = held _ _ _ _ (λ q. omega arith) b.1 in
    let d = held _ _ _ _ (λ q. omega arith) c.1 in
    record { low = leb-true _ _ a.0; high = leb-true _ _ b.0; least = leb-true _ _ c.0; fits = leb-true _ _ d.0 }

pub good_head : (held head room : ℕ) → HeadGood held head room → 0 ≡ head_fault held head room
unfolding head_fault
good_head h head room g =
    passes _ _ _ _ (le-leb 0xCCC0 (type_of head) g.low) (passes _ _ _ _ (le-leb (type_of head) 0xCCC7 g.high)
    (passes _ _ _ _ (le-leb 6 (len_of head) g.least) (passes _ _ _ _ (le-leb (h + len_of head) room g.fits) refl)))

-- over a store of no bytes every head is refused
pub none_good : (head : ℕ) → 0 ≡ head_fault 0 head 0 → ⊥
none_good head e = let g = head_good 0 head 0 e in let a = g.least in let b = g.fits in omega arith

-- a refused head has the number that it has over a store of no bytes
same_from : (t : Bool) (f x y : ℕ) → (t ≡ true → (0 ≡ x → ⊥) → x ≡ y) → (0 ≡ (t ! f ⨾ x) → ⊥) → (t ! f ⨾ x) ≡ (t ! f ⨾ y)
unfolding ◌!◌⨾◌
same_from true f x y p n = p refl n
same_from false f x y p n = refl

room_fault : (t u : Bool) (n : ℕ) → u ≡ false → (0 ≡ (t ! n ⨾ 0) → ⊥) → (t ! n ⨾ 0) ≡ (u ! n ⨾ 0)
unfolding ◌!◌⨾◌
room_fault true u n e z = absurd (z refl)
room_fault false u n e z = fails u n 0 n e refl

pub same_refusal : (held head room : ℕ) → (0 ≡ head_fault held head room → ⊥) → head_fault held head room ≡ head_fault 0 head 0
unfolding head_fault
same_refusal h head room n =
    same_from _ _ _ _ (λ a. same_from _ _ _ _ (λ b. same_from _ _ _ _
    (λ c. let l = leb-true 6 (len_of head) c in room_fault _ _ _ (lt-leb (0 + len_of head) 0 (omega arith))))) n

-- ---- no number is past 01's last

row_few : (t : Bool) (f x k : ℕ) → f ≤ k → (t ≡ true → x ≤ k) → (t ! f ⨾ x) ≤ k
unfolding ◌!◌⨾◌
row_few true f x k p q = q refl
row_few false f x k p q = p

first_few : (a b k : ℕ) → a ≤ k → b ≤ k → (a ⨟ b) ≤ k
unfolding ◌⨟◌
first_few zero b k p q = q
first_few (suc a) b k p q = p

pub head_few : (held head room : ℕ) → head_fault held head room ≤ 13
unfolding head_fault
head_few h head room =
    row_few _ 3 _ 13 (omega arith) (λ a. row_few _ 3 _ 13 (omega arith) (λ b. row_few _ 4 _ 13 (omega arith) (λ c. row_few _ 13 0 13 (omega arith)
    (λ d. omega arith))))

-- ---- where a block may end

pub data Ends (part held end : ℕ) : Type 0 where
  begin : part ≡ in_frame → held < 12 → end < 4294967296 → Ends part held end
  later : (part ≡ in_frame) ⊎ (part ≡ at_end) → 12 ≤ held → end - held < 4294967290 → Ends part held end
  alone : 1 ≤ part → part ≤ 2 → end < 4294967296 → Ends part held end

pub ends : (part held end : ℕ) → true ≡ may_end part held end → Ends part held end
unfolding may_end
ends p h e m =
    ⊎_elim
    (λ x. ⊎_elim
    (λ y. begin (eqb-true _ _ x.0) (ltb-true _ _ y.0) (ltb-true _ _ (sym y.1)))
    (λ y. later (inl (eqb-true _ _ x.0)) (ltb-false _ _ y.0) (ltb-true _ _ (sym y.1)))
    (which _ _ _ x.1))
    (λ x. ⊎_elim
    (λ y. ⊎_elim
    (λ z. absurd (true≢false z.1))
    (λ z. later (inr (eqb-true _ _ y.0)) (ltb-false _ _ z.0) (ltb-true _ _ (sym z.1)))
    (which _ _ _ y.1))
    (λ y.
    let a = held _ _ _ _ true≢false y.1 in
    let b = held _ _ _ _ true≢false a.1 in
    alone (leb-true _ _ a.0) (leb-true _ _ b.0) (ltb-true _ _ (sym b.1)))
    (which _ _ _ x.1))
    (which _ _ _ m)

pub may : (part held end : ℕ) → Ends part held end → true ≡ may_end part held end
unfolding may_end
may p h e (begin a b c) = case_yes _ _ _ _ (eq-eqb p 3 a) (case_yes _ _ _ _ (lt-ltb h 12 b) (sym (lt-ltb e 4294967296 c)))
may p h e (later (inl a) b c) = case_yes _ _ _ _ (eq-eqb p 3 a) (case_no _ _ _ _ (le-ltb h 12 b) (sym (lt-ltb (e - h) 4294967290 c)))
may p h e (later (inr a) b c) =
    case_no _ _ _ _ (ne_eqb p 3 (λ q. omega arith))
    (case_yes _ _ _ _ (eq-eqb p 4 a) (case_no _ _ _ _ (le-ltb h 12 b) (sym (lt-ltb (e - h) 4294967290 c))))
may p h e (alone a b c) =
    case_no _ _ _ _ (ne_eqb p 3 (λ q. omega arith)) (case_no _ _ _ _ (ne_eqb p 4 (λ q. omega arith))
    (passes _ _ _ _ (le-leb 1 p a) (passes _ _ _ _ (le-leb p 2 b) (sym (lt-ltb e 4294967296 c)))))

-- more bytes of it
pub ends_on : (part held end n : ℕ) → Ends part held end → Ends part (held + n) end
ends_on p h e n (begin a b c) = by (dec_lt (h + n) 12)
  where
    by : Dec (h + n < 12) → Ends p (h + n) e
    by (yes l) = begin a l c
    by (no l) = later (inl a) (omega arith) (omega arith)
ends_on p h e n (later a b c) = later a (omega arith) (omega arith)
ends_on p h e n (alone a b c) = alone a b c

-- ---- between blocks

pub data Between (part held : ℕ) : Type 0 where
  none : part ≡ outside → held ≡ 0 → Between part held
  some : part ≡ in_frame → 6 ≤ held → Between part held

pub places : (part held : ℕ) → true ≡ between part held → Between part held
unfolding between
places p h e =
    ⊎_elim
    (λ x. none (eqb-true _ _ x.0) (eqb-true _ _ (sym x.1)))
    (λ x. let a = held _ _ _ _ true≢false x.1 in some (eqb-true _ _ a.0) (leb-true _ _ (sym a.1)))
    (which _ _ _ e)

pub placed : (part held : ℕ) → Between part held → true ≡ between part held
unfolding between
placed p h (none a b) = case_yes _ _ _ _ (eq-eqb p 0 a) (sym (eq-eqb h 0 b))
placed p h (some a b) = case_no _ _ _ _ (ne_eqb p 0 (λ q. omega arith)) (passes _ _ _ _ (eq-eqb p 3 a) (sym (le-leb 6 h b)))

-- where the block may end whose head came there
pub head_ends : (part held kind size : ℕ) → Between part held → size < 4294967296 → Ends (part_after part kind) (held + 6) (held + size)
unfolding part_after
head_ends p h k n (some a b) l =
    by_case (λ (x : ℕ). Ends x (h + 6) (h + n)) _ _ _
    (λ e. by_case (λ (x : ℕ). Ends x (h + 6) (h + n)) _ _ _
    (λ f. later (inr refl) (omega arith) (omega arith)) (λ f. later (inl refl) (omega arith) (omega arith)))
    (λ e. absurd (eqb-false p 3 e a))
head_ends p h k n (none a b) l =
    by_case (λ (x : ℕ). Ends x (h + 6) (h + n)) _ _ _
    (λ e. let q = eqb-true p 3 e in absurd (omega arith))
    (λ e. by_case (λ (x : ℕ). Ends x (h + 6) (h + n)) _ _ _
    (λ f. begin refl (omega arith) (omega arith))
    (λ f. by_case (λ (x : ℕ). Ends x (h + 6) (h + n)) _ _ _
    (λ g. alone (omega arith) (omega arith) (omega arith)) (λ g. alone (omega arith) (omega arith) (omega arith))))

-- ---- a record that takes bytes, over a store of so many

pub record Open (c : Collector) (room : ℕ) : Type 0 where
  pub good : true ≡ collector_made c
  pub free : c.refused ≡ 0
  pub fits : c.held ≤ room
  pub ends : c.end ≤ room

pub opened : (c : Collector) (room : ℕ) → 0 ≡ collector_fault c room → Open c room
unfolding collector_fault
opened c room e =
    let a = held _ _ _ _ (λ q. omega arith) e in
    let b = both _ _ a.1 in
    let d = held _ _ _ _ (λ q. omega arith) b.1 in
    let f = held _ _ _ _ (λ q. omega arith) d.1 in
    record { good = sym a.0; free = sym b.0; fits = leb-true _ _ d.0; ends = leb-true _ _ f.0 }

pub takes : (c : Collector) (room : ℕ) → Open c room → 0 ≡ collector_fault c room
unfolding collector_fault
takes c room o =
    passes _ _ _ _ (sym o.good) (goes_on _ _ _ o.free
    (passes _ _ _ _ (le-leb c.held room o.fits) (passes _ _ _ _ (le-leb c.end room o.ends) refl)))

-- between blocks
pub record Heads (c : Collector) : Type 0 where
  pub few : c.seen ≤ 6
  pub small : c.head < 256 ^ c.seen
  pub number : c.refused ≡ refusal_of c.seen c.head
  pub place : Between c.part c.held

pub heads : (c : Collector) → true ≡ collector_made c → c.end ≡ 0 → Heads c
unfolding collector_made made_waiting
heads c m e =
    let a = held _ _ _ _ true≢false (case_is _ _ _ _ (eq-eqb c.end 0 e) m) in
    let b = held _ _ _ _ true≢false a.1 in
    let d = held _ _ _ _ true≢false b.1 in
    record { few = leb-true _ _ a.0; small = ltb-true _ _ b.0; number = eqb-true _ _ d.0; place = places _ _ d.1 }

pub no_refusal : (seen head : ℕ) → seen < 6 → 0 ≡ refusal_of seen head
unfolding refusal_of
no_refusal n d l = case_yes _ _ _ _ (lt-ltb n 6 l) refl

pub some_refusal : (seen head : ℕ) → 6 ≤ seen → head_fault 0 head 0 ≡ refusal_of seen head
unfolding refusal_of
some_refusal n d l = case_no _ _ _ _ (le-ltb n 6 l) refl

pub refusal_few : (seen head : ℕ) → refusal_of seen head ≤ 13
unfolding refusal_of
refusal_few n d = by_case (λ (x : ℕ). x ≤ 13) _ _ _ (λ e. omega arith) (λ e. head_few 0 d 0)

-- with a head that waits
pub record Waits (c : Collector) : Type 0 where
  pub few : c.seen < 6
  pub small : c.head < 256 ^ c.seen
  pub place : Between c.part c.held

waits_few : (seen head : ℕ) → 0 ≡ refusal_of seen head → Dec (seen < 6) → seen < 6
waits_few n d e (yes l) = l
waits_few n d e (no l) = absurd (none_good d (e ∙ sym (some_refusal n d (omega arith))))

pub waits : (c : Collector) → true ≡ collector_made c → c.end ≡ 0 → c.refused ≡ 0 → Waits c
waits c m e f =
    let h = heads c m e in
    record { few = waits_few c.seen c.head (sym f ∙ h.number) (dec_lt c.seen 6); small = h.small; place = h.place }

-- with a block under way
pub record Gathers (c : Collector) : Type 0 where
  pub free : c.refused ≡ 0
  pub none : c.seen ≡ 0
  pub clear : c.head ≡ 0
  pub least : 6 ≤ c.held
  pub less : c.held < c.end
  pub kind : Ends c.part c.held c.end

pub gathers : (c : Collector) → true ≡ collector_made c → (c.end ≡ 0 → ⊥) → Gathers c
unfolding collector_made made_gathering
gathers c m e =
    let a = held _ _ _ _ true≢false (case_not _ _ _ _ (ne_eqb c.end 0 e) m) in
    let b = held _ _ _ _ true≢false a.1 in
    let d = held _ _ _ _ true≢false b.1 in
    let f = held _ _ _ _ true≢false d.1 in
    let g = held _ _ _ _ true≢false f.1 in
    record {
      free = eqb-true _ _ a.0;
      none = eqb-true _ _ b.0;
      clear = eqb-true _ _ d.0;
      least = leb-true _ _ f.0;
      less = ltb-true _ _ g.0;
      kind = ends _ _ _ g.1;
    }

-- the refusal that a record keeps is that of its head
pub kept_refusal : (c : Collector) → true ≡ collector_made c → c.refused ≡ refusal_of c.seen c.head
kept_refusal c m = by (dec_lt 0 c.end)
  where
    by : Dec (0 < c.end) → c.refused ≡ refusal_of c.seen c.head
    by (yes p) = let g = gathers c m (λ z. omega arith) in g.free ∙ no_refusal c.seen c.head (omega (arith, g.none))
    by (no p) = (heads c m (omega arith)).number

pub fault_few : (c : Collector) (room : ℕ) → collector_fault c room ≤ 13
unfolding collector_fault
fault_few c room =
    row_few _ 12 _ 13 (omega arith) (λ m. first_few c.refused _ 13 (omega (arith, kept_refusal c (sym m), refusal_few c.seen c.head))
    (row_few _ 2 _ 13 (omega arith) (λ a. row_few _ 2 0 13 (omega arith) (λ b. omega arith))))

-- a record, by the fields that its kind does not use
pub same_waiting : (c : Collector) → c.end ≡ 0 → c.refused ≡ 0 → waiting c.part c.held c.seen c.head ≡ c
same_waiting c e f =
    ap₂ (λ (x y : ℕ). record { held = c.held; end = x; head = c.head; refused = y; part = c.part; seen = c.seen }) (sym e) (sym f)

pub same_refusing : (c : Collector) (n : ℕ) → c.end ≡ 0 → c.seen ≡ 6 → c.refused ≡ n → refusing n c.part c.held c.head ≡ c
same_refusing c n e f g =
    ap₂ (λ (x y : ℕ). record { held = c.held; end = x; head = c.head; refused = y; part = c.part; seen = 6 }) (sym e) (sym g)
    ∙ ap (λ (x : ℕ). record { held = c.held; end = c.end; head = c.head; refused = c.refused; part = c.part; seen = x }) (sym f)

pub same_gathering : (c : Collector) → Gathers c → gathering c.part c.held c.end ≡ c
same_gathering c g =
    ap₂ (λ (x y : ℕ). record { held = c.held; end = c.end; head = x; refused = y; part = c.part; seen = 0 }) (sym g.clear) (sym g.free)
    ∙ ap (λ (x : ℕ). record { held = c.held; end = c.end; head = c.head; refused = c.refused; part = c.part; seen = x }) (sym g.none)

-- ---- the records that calls make

pub made-waiting : (part held seen head : ℕ) → seen < 6 → head < 256 ^ seen → Between part held → true ≡ collector_made (waiting part held seen head)
unfolding collector_made made_waiting
made-waiting p h n d l m b =
    case_yes _ _ _ _ refl (passes _ _ _ _ (le-leb n 6 (omega arith)) (passes _ _ _ _ (lt-ltb d (256 ^ n) m)
    (passes _ _ _ _ (eq-eqb 0 _ (no_refusal n d l)) (placed p h b))))

pub made_refusing :
    (number part held head : ℕ)
    → number ≡ head_fault 0 head 0
    → head < 281474976710656
    → Between part held
    → true ≡ collector_made (refusing number part held head)
unfolding collector_made made_waiting
made_refusing n p h d e m b =
    case_yes _ _ _ _ refl (passes _ _ _ _ refl (passes _ _ _ _ (lt-ltb d 281474976710656 m)
    (passes _ _ _ _ (eq-eqb n _ (e ∙ some_refusal 6 d (omega arith))) (placed p h b))))

pub made-gathering : (part held end : ℕ) → 6 ≤ held → held < end → Ends part held end → true ≡ collector_made (gathering part held end)
unfolding collector_made made_gathering
made-gathering p h e l m k =
    case_no _ _ _ _ (ne_eqb e 0 (λ q. omega arith)) (passes _ _ _ _ refl (passes _ _ _ _ refl (passes _ _ _ _ refl
    (passes _ _ _ _ (le-leb 6 h l) (passes _ _ _ _ (lt-ltb h e m) (may p h e k))))))

pub open_fresh : (room : ℕ) → Open fresh room
open_fresh room = record { good = made-waiting 0 0 0 0 (omega arith) (omega arith) (none refl refl); free = refl; fits = omega arith; ends = omega arith }
