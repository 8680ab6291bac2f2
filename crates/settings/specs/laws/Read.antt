-- Laws of the reader's walk: a body passed, one record, and the loop over the records.
-- Assumes nothing.
use Rattle.std.specs.Prelude.{ℕ, zero, suc, ◌+◌, ◌-◌, ◌≤◌, ◌<◌, ◌≡◌, refl, Bool, true, false, Some, Ok, Err, List, [], ◌∷◌, eqb, length, get_or, take, drop}
use Rattle.std.proofs.Math.Path.{ap}
use Rattle.std.proofs.Common.{sym, ◌∙◌, arith, add-one, add-zero, zero-add, leb-true, eq-eqb, ne_eqb, length-drop, drop-cons, drop-drop, get_or-drop}
use Rattle.std.proofs.Math.Decide.{ℕ_discrete}
use Rattle.whole.specs.Row.{◌⇒◌∣◌}
use Rattle.whole.specs.laws.Row.{held, both, case_yes, case_no, passes, fails, rows}
use Rattle.wire.specs.Le.{le16}
use Rattle.wire.specs.Refusal.{refusal_of}
use Rattle.wire.specs.laws.Refusal.{number_pos, number_back}
use Rattle.bands.specs.Bands.{quant_of}
use Rattle.quants.specs.laws.Quants.{drop_all}
use Rattle.settings.specs.Settings.{Reading, settings, no_settings, why_number, why_of, Kept, Refused, store_number, given, start, body_of, state, takes}
use Rattle.settings.specs.Settings.{settings_fault, front_fault, bytes_fault, record_fault, settings_in}
use Rattle.settings.specs.Settings.{after, ended, unless, walk, read_settings}
use Rattle.settings.specs.declared.Settings.{Settings}
use Rattle.settings.specs.declared.StoreRefusal.{StoreRefusal}
use Rattle.settings.specs.declared.StoreRefusal.TheVariants.{Common, Version, Alone}
use Rattle.wire.specs.declared.Refusal.TheVariants.{Cut, Buffer, Kind, Length, Field, TooBig, Quant, Place, Range, Overrun, Tail, Order, Room}
use Rattle.settings.specs.declared.read.State.{State}

-- ---- one record at a place of a message

-- what is in front of the bytes has nothing to refuse: the whole body is there
pub body_in : (version kind left : ℕ) → 0 ≡ front_fault version kind left → body_of kind ≤ left
unfolding front_fault
body_in version kind left e =
    let a = held _ _ _ _ (λ q. omega arith) e in
    let b = held _ _ _ _ (λ q. omega arith) a.1 in
    let c = held _ _ _ _ (λ q. omega arith) b.1 in
    leb-true (body_of kind) left c.0

pub front_fits : (version kind at : ℕ) (m : List ℕ) → at ≤ length m → 0 ≡ front_fault version kind (length (drop at m)) → at + body_of kind ≤ length m
front_fits version kind at m h e = omega (arith, body_in version kind (length (drop at m)) e, length-drop at m)

pub body_fits : (newest version kind at : ℕ) (m : List ℕ) → at ≤ length m → 0 ≡ record_fault newest version kind (drop at m) → at + body_of kind ≤ length m
unfolding record_fault
body_fits newest version kind at m h e = front_fits version kind at m h (both _ _ e).0

pub front_at : (n version kind at : ℕ) (m : List ℕ) → n ≡ front_fault version kind (length m - at) → n ≡ front_fault version kind (length (drop at m))
front_at n version kind at m e = e ∙ ap (front_fault version kind) (sym (length-drop at m))

-- how long it is
pub body_0 : (kind : ℕ) → kind ≡ 0 → 2 ≡ body_of kind
unfolding body_of
body_0 kind e = search rows

pub body_1 : (kind : ℕ) → kind ≡ 1 → 6 ≡ body_of kind
unfolding body_of
body_1 kind e = case_no (eqb kind 0) _ _ _ (ne_eqb kind 0 (λ z. omega arith)) (case_yes (eqb kind 1) _ _ _ (eq-eqb kind 1 e) refl)

pub body_2 : (kind : ℕ) → (kind ≡ 0 → ⊥) → (kind ≡ 1 → ⊥) → 11 ≡ body_of kind
unfolding body_of
body_2 kind d e = search rows

pub body_least : (kind : ℕ) → (kind ≡ 0 → ⊥) → 6 ≤ body_of kind
body_least kind d = by (ℕ_discrete kind 1)
  where
    by : Dec (kind ≡ 1) → 6 ≤ body_of kind
    by (yes e) = omega (arith, body_1 kind e)
    by (no e) = omega (arith, body_2 kind d e)

-- the fields of a body, at a place
pub version_at : (m : List ℕ) (at : ℕ) → le16 m at ≡ le16 (drop at m) 0
unfolding le16
version_at m at = sym (simp (get_or-drop, add-zero, zero-add))

pub one_at : (m luma : List ℕ) (at kind : ℕ) → kind ≡ 1 → luma ≡ quant_of (take 5 (drop at m)) →
    settings luma luma (get_or m (at + 5) 0) ≡ settings_in kind (drop at m)
unfolding settings_in
one_at m luma at kind k e =
    case_yes (eqb kind 1) _ _ _ (eq-eqb kind 1 k) (rw (e, get_or-drop at m 5 0))

pub two_at : (m luma chroma : List ℕ) (at kind : ℕ) → (kind ≡ 1 → ⊥) → luma ≡ quant_of (take 5 (drop at m)) → chroma ≡ quant_of (take 5 (drop (at + 5) m)) →
    settings luma chroma (get_or m (at + 10) 0) ≡ settings_in kind (drop at m)
unfolding settings_in
two_at m luma chroma at kind k e f =
    case_no (eqb kind 1) _ _ _ (ne_eqb kind 1 k) (rw (e, f, get_or-drop at m 10 0, drop-drop 5 at m))

-- the bytes of a body, and what the record makes of what was said, at a place
module _ (m : List ℕ) (at kind : ℕ) where
  pub bytes_version : (newest v : ℕ) (t : Bool) → kind ≡ 0 → v ≡ le16 m at → t ≡ takes newest v → t ≡ true → 0 ≡ bytes_fault newest kind (drop at m)
  unfolding bytes_fault
  bytes_version newest v t k e f h =
      case_yes (eqb kind 0) _ _ _ (eq-eqb kind 0 k) (passes _ _ _ _ (ap (takes newest) (sym (e ∙ version_at m at)) ∙ (sym f ∙ h)) refl)

  pub bytes_other : (newest v : ℕ) (t : Bool) → kind ≡ 0 → v ≡ le16 m at → t ≡ takes newest v → t ≡ false → 14 ≡ bytes_fault newest kind (drop at m)
  unfolding bytes_fault
  bytes_other newest v t k e f h =
      case_yes (eqb kind 0) _ _ _ (eq-eqb kind 0 k) (fails _ _ _ _ (ap (takes newest) (sym (e ∙ version_at m at)) ∙ (sym f ∙ h)) refl)

  pub bytes_setting : (newest n : ℕ) (s : Settings) → (kind ≡ 0 → ⊥) → s ≡ settings_in kind (drop at m) → n ≡ settings_fault s →
      n ≡ bytes_fault newest kind (drop at m)
  unfolding bytes_fault
  bytes_setting newest n s k e f = case_no (eqb kind 0) _ _ _ (ne_eqb kind 0 k) (f ∙ ap settings_fault e)

  pub after_version : (s : State) (v : ℕ) → kind ≡ 0 → v ≡ le16 m at → state v s.last ≡ after s kind (drop at m)
  unfolding after
  after_version s v k e =
      case_yes (eqb kind 0) _ _ _ (eq-eqb kind 0 k) (ap (λ (x : ℕ). state x s.last) (e ∙ version_at m at))

  pub after_setting : (s : State) (t : Settings) → (kind ≡ 0 → ⊥) → t ≡ settings_in kind (drop at m) → state s.version (Some t) ≡ after s kind (drop at m)
  unfolding after
  after_setting s t k e = case_no (eqb kind 0) _ _ _ (ne_eqb kind 0 k) (ap (λ (x : Settings). state s.version (Some x)) e)

-- ---- the walk

pub walk_skip : (newest : ℕ) (s : State) (n : ℕ) (bs : List ℕ) → walk newest s n bs ≡ walk newest s 0 (drop n bs)
unfolding walk
walk_skip newest s zero bs = refl
walk_skip newest s (suc n) [] = refl
walk_skip newest s (suc n) (b ∷ bs) = walk_skip newest s n bs

-- at a place: the record's first fault, or the walk behind its body
pub walk_at : (newest : ℕ) (s : State) (m : List ℕ) (at : ℕ) → at < length m →
    walk newest s 0 (drop at m)
    ≡ unless (record_fault newest s.version (get_or m at 0) (drop (at + 1) m))
    (walk newest (after s (get_or m at 0) (drop (at + 1) m)) 0 (drop (at + 1 + body_of (get_or m at 0)) m))
unfolding walk
walk_at newest s m at h =
    let kind = get_or m at 0 in
    let rest = drop (at + 1) m in
    let a : drop at m ≡ kind ∷ rest = rw add-one (drop-cons m at 0 h) in
    ap (walk newest s 0) a
    ∙ ap (unless (record_fault newest s.version kind rest))
    (walk_skip newest (after s kind rest) (body_of kind) rest
    ∙ ap (walk newest (after s kind rest) 0) (drop-drop (body_of kind) (at + 1) m))

pub refuses : (n : ℕ) (r : Reading) → (n ≡ 0 → ⊥) → Refused n ≡ unless n r
unfolding unless
refuses zero r h = absurd (h refl)
refuses (suc n) r h = refl

pub goes_on : (n : ℕ) (r : Reading) → 0 ≡ n → unless n r ≡ r
unfolding unless
goes_on zero r e = refl
goes_on (suc n) r e = absurd (omega arith)

-- ---- a refusal and its number

pub why_back : (why : StoreRefusal) → why_of (why_number why) ≡ why
unfolding why_of refusal_of ◌⇒◌∣◌
why_back (Common Cut) = refl
why_back (Common Buffer) = refl
why_back (Common Kind) = refl
why_back (Common Length) = refl
why_back (Common Field) = refl
why_back (Common TooBig) = refl
why_back (Common Quant) = refl
why_back (Common Place) = refl
why_back (Common Range) = refl
why_back (Common Overrun) = refl
why_back (Common Tail) = refl
why_back (Common Order) = refl
why_back (Common Room) = refl
why_back Version = refl
why_back Alone = refl

pub why_pos : (why : StoreRefusal) → why_number why ≡ 0 → ⊥
why_pos (Common refusal) e = number_pos refusal e
why_pos Version e = absurd (omega (arith, e))
why_pos Alone e = absurd (omega (arith, e))

-- an answer by its number, and by its settings where that is 0
abbrev pub told : ℕ → Settings → Reading
told zero s = Kept s
told (suc n) s = Refused (suc n)

pub reading_told : (r : Reading) → told (store_number r) (given r) ≡ r
reading_told (Ok s) = refl
reading_told (Err why) = by (why_number why) refl
  where
    by : (n : ℕ) → n ≡ why_number why → told n no_settings ≡ Err why
    by zero e = absurd (why_pos why (sym e))
    by (suc n) e = ap Err (ap why_of e ∙ why_back why)

-- the numbers up to 15 are those of refusals
pub number_of_why : (n : ℕ) → 0 < n → n ≤ 15 → why_number (why_of n) ≡ n
unfolding why_of ◌⇒◌∣◌
number_of_why n l u = by (ℕ_discrete n 14) (ℕ_discrete n 15)
  where
    by : Dec (n ≡ 14) → Dec (n ≡ 15) → why_number (eqb n 14 ⇒ Version ∣ eqb n 15 ⇒ Alone ∣ Common (refusal_of n)) ≡ n
    by (yes a) b = rw (eq-eqb n 14 a) (sym a)
    by (no a) (yes b) = rw (ne_eqb n 14 a, eq-eqb n 15 b) (sym b)
    by (no a) (no b) = rw (ne_eqb n 14 a, ne_eqb n 15 b) (number_back n l (omega arith))

-- ---- the loop: what the reader answers is the walk from the place where it stands

module _ (newest : ℕ) (m : List ℕ) (s : State) (at kind : ℕ) where
  turn_at : (n : ℕ) → read_settings newest m ≡ walk newest s 0 (drop at m) → at < length m → kind ≡ get_or m at 0 →
      n ≡ record_fault newest s.version kind (drop (at + 1) m) → (n ≡ 0 → ⊥) → Refused n ≡ read_settings newest m
  turn_at n i h k e d =
      let faults : record_fault newest s.version (get_or m at 0) (drop (at + 1) m) ≡ n =
      ap (λ (x : ℕ). record_fault newest s.version x (drop (at + 1) m)) (sym k) ∙ sym e in
      let on = walk newest (after s (get_or m at 0) (drop (at + 1) m)) 0 (drop (at + 1 + body_of (get_or m at 0)) m) in
      refuses n on d ∙ sym (i ∙ (walk_at newest s m at h ∙ ap (λ (f : ℕ). unless f on) faults))

  pub turn_refuses : (why : StoreRefusal) → read_settings newest m ≡ walk newest s 0 (drop at m) → at < length m → kind ≡ get_or m at 0 →
      why_number why ≡ record_fault newest s.version kind (drop (at + 1) m) → Err why ≡ read_settings newest m
  turn_refuses why i h k e = ap Err (sym (why_back why)) ∙ turn_at (why_number why) i h k e (why_pos why)

  pub turn_goes_on : (t : State) (end : ℕ) → read_settings newest m ≡ walk newest s 0 (drop at m) → at < length m → kind ≡ get_or m at 0 →
      0 ≡ record_fault newest s.version kind (drop (at + 1) m) → t ≡ after s kind (drop (at + 1) m) → end ≡ at + 1 + body_of kind →
      read_settings newest m ≡ walk newest t 0 (drop end m)
  turn_goes_on t end i h k e f g =
      let none : 0 ≡ record_fault newest s.version (get_or m at 0) (drop (at + 1) m) =
      e ∙ ap (λ (x : ℕ). record_fault newest s.version x (drop (at + 1) m)) k in
      i ∙ (walk_at newest s m at h ∙ (goes_on _ _ none ∙ sym (rw (f, g, k))))

pub turn_starts : (newest : ℕ) (m : List ℕ) → read_settings newest m ≡ walk newest start 0 (drop 0 m)
unfolding read_settings
turn_starts newest m = refl

pub turn_ends : (newest : ℕ) (m : List ℕ) (s : State) (at : ℕ) → read_settings newest m ≡ walk newest s 0 (drop at m) → length m ≤ at →
    ended s ≡ read_settings newest m
unfolding walk
turn_ends newest m s at i h = sym (i ∙ rw (drop_all m at h))
