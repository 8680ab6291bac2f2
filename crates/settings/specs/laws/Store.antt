-- A store of whole records walked: its version, good records behind it, and what a reader answers at their end or at a fault.
-- Assumes nothing.
use Rattle.std.specs.Prelude.{ℕ, suc, ◌≤◌, ◌<◌, ◌≡◌, Bool, Option, Some, None, ◌⊎◌, List, [], ◌∷◌, ◌++◌, eqb, leb, length, get_or}
use Rattle.std.proofs.Math.Path.{refl}
use Rattle.std.proofs.Common.{ap, ap₂, sym, ◌∙◌, inl, inr, ⊎_elim, append_assoc, append-nil, arith, eq-eqb, ne_eqb, le-leb, eqb-true, length-append, take_at}
use Rattle.std.proofs.Common.{drop_at}
use Rattle.std.proofs.Math.Bool.{true, false}
use Rattle.std.proofs.lemmas.Bool.{lt-leb}
use Rattle.std.proofs.lemmas.List.{get_or_at}
use Rattle.whole.specs.Row.{◌!◌⨾◌, ◌⇒◌∣◌, ◌⨟◌}
use Rattle.whole.specs.laws.Row.{passes, fails, case_yes, case_no, goes_on, stops}
use Rattle.wire.specs.Le.{le16, bytes16}
use Rattle.wire.specs.Mode.{is_mode}
use Rattle.bands.specs.Bands.{quant_of, is_good}
use Rattle.bands.specs.laws.Band.{good_set}
use Rattle.quants.specs.Quants.{quant_bytes}
use Rattle.quants.specs.laws.Quants.{set_five, quant_back}
use Rattle.settings.specs.Settings.{settings, Kept, Refused, state, start, body_of, known, placed, takes, settings_fault, settings_in}
use Rattle.settings.specs.Settings.{front_fault, bytes_fault, record_fault, after, last_or, ended, unless, walk, read_settings, version_record, one_record}
use Rattle.settings.specs.Settings.{two_record, GoodSettings}
use Rattle.settings.specs.laws.Read as R
use Rattle.settings.specs.laws.Write.{fine, one_body, two_body}
use Rattle.settings.specs.Request.{Setting, one, two, record_of, kind_of, said_by, records_of, store_of, AllGood, last_of}
use Rattle.settings.specs.declared.Settings.{Settings}
use Rattle.settings.specs.declared.read.State.{State}

-- ---- kind, place, presence

front_stops : (newest v kind n : ℕ) (rest : List ℕ) → suc n ≡ front_fault v kind (length rest) → suc n ≡ record_fault newest v kind rest
unfolding record_fault
front_stops newest v kind n rest e = stops _ _ _ (λ z. omega (arith, e, z)) e

pub kind_fault : (newest v kind : ℕ) (rest : List ℕ) → known v kind ≡ false → 3 ≡ record_fault newest v kind rest
unfolding front_fault
kind_fault newest v kind rest k = front_stops newest v kind 2 rest (fails _ _ _ _ k refl)

pub place_fault : (newest v kind : ℕ) (rest : List ℕ) → known v kind ≡ true → placed v kind ≡ false → 12 ≡ record_fault newest v kind rest
unfolding front_fault
place_fault newest v kind rest k p = front_stops newest v kind 11 rest (passes _ _ _ _ k (fails _ _ _ _ p refl))

pub presence_fault : (newest v kind : ℕ) (rest : List ℕ) → known v kind ≡ true → placed v kind ≡ true → length rest < body_of kind →
    1 ≡ record_fault newest v kind rest
unfolding front_fault
presence_fault newest v kind rest k p l =
    front_stops newest v kind 0 rest (passes _ _ _ _ k (passes _ _ _ _ p (fails _ _ _ _ (lt-leb (body_of kind) (length rest) l) refl)))

-- where a version is read, a record is in its place if it is no version
pub placed_behind : (v kind : ℕ) → 1 ≤ v → 1 ≤ kind → placed v kind ≡ true
unfolding placed
placed_behind v kind h k =
    sym (case_no (eqb v 0) _ _ _ (ne_eqb v 0 (λ e. omega arith)) (case_no (eqb kind 0) _ _ _ (ne_eqb kind 0 (λ e. omega arith)) refl))

pub version_again : (v : ℕ) → 1 ≤ v → placed v 0 ≡ false
unfolding placed
version_again v h = sym (case_no (eqb v 0) _ _ _ (ne_eqb v 0 (λ e. omega arith)) (case_yes (eqb 0 0) _ _ _ refl refl))

first_place : (kind : ℕ) → 1 ≤ kind → placed 0 kind ≡ false
unfolding placed
first_place kind h = sym (case_yes (eqb 0 0) _ _ _ refl (sym (ne_eqb kind 0 (λ e. omega arith))))

first_known : (kind : ℕ) → known 0 kind ≡ leb kind 2
unfolding known ◌⇒◌∣◌
first_known kind = refl

-- ---- the version

version_read : (v : ℕ) (rest : List ℕ) → v < 65536 → le16 (bytes16 v ++ rest) 0 ≡ v
unfolding le16 bytes16
version_read v rest h = omega arith

-- of a first record that is a version whose bytes are there, the bytes decide
version_fault : (newest v : ℕ) (rest : List ℕ) → record_fault newest 0 0 (bytes16 v ++ rest) ≡ bytes_fault newest 0 (bytes16 v ++ rest)
unfolding record_fault front_fault known placed body_of bytes16 ◌!◌⨾◌ ◌⇒◌∣◌ ◌⨟◌
version_fault newest v rest = rw (le-leb 2 (length (bytes16 v ++ rest)) (omega arith))

taken_bytes : (newest v : ℕ) (rest : List ℕ) → v < 65536 → takes newest v ≡ true → 0 ≡ bytes_fault newest 0 (bytes16 v ++ rest)
unfolding bytes_fault
taken_bytes newest v rest h t = case_yes (eqb 0 0) _ _ _ refl (passes _ _ _ _ (ap (takes newest) (version_read v rest h) ∙ t) refl)

other_bytes : (newest v : ℕ) (rest : List ℕ) → v < 65536 → takes newest v ≡ false → 14 ≡ bytes_fault newest 0 (bytes16 v ++ rest)
unfolding bytes_fault
other_bytes newest v rest h t = case_yes (eqb 0 0) _ _ _ refl (fails _ _ _ _ (ap (takes newest) (version_read v rest h) ∙ t) refl)

-- what a reader takes is 1 or 2
either : (a b : Bool) (x y : Bool) → (a ⇒ x ∣ (b ⇒ y ∣ false)) ≡ true → (a ≡ true) ⊎ (b ≡ true)
unfolding ◌⇒◌∣◌
either true b x y e = inl refl
either false true x y e = inr refl
either false false x y e = absurd (let z : ◌≡◌ {A = ℕ} 0 1 = cc in omega arith)

pub taken_is : (newest v : ℕ) → takes newest v ≡ true → (v ≡ 1) ⊎ (v ≡ 2)
unfolding takes
taken_is newest v t = ⊎_elim (λ e. inl (eqb-true v 1 e)) (λ e. inr (eqb-true v 2 e)) (either (eqb v 1) (eqb v 2) (leb 1 newest) (leb 2 newest) t)

pub taken_small : (newest v : ℕ) → takes newest v ≡ true → (1 ≤ v) × (v < 65536)
taken_small newest v t = ⊎_elim (λ e. omega arith) (λ e. omega arith) (taken_is newest v t)

version_after : (v : ℕ) (rest : List ℕ) → v < 65536 → after start 0 (bytes16 v ++ rest) ≡ state v None
unfolding after
version_after v rest h = sym (case_yes (eqb 0 0) _ _ _ refl (ap (λ (x : ℕ). state x None) (sym (version_read v rest h))))

pub version_walked : (newest v : ℕ) (rest : List ℕ) → takes newest v ≡ true →
    read_settings newest (version_record v ++ rest) ≡ walk newest (state v None) 0 rest
unfolding read_settings version_record walk bytes16 body_of ◌⇒◌∣◌
version_walked newest v rest t =
    let h = (taken_small newest v t).1 in
    R.goes_on _ _ (taken_bytes newest v rest h t ∙ sym (version_fault newest v rest))
    ∙ (R.walk_skip newest (after start 0 (bytes16 v ++ rest)) 2 (bytes16 v ++ rest) ∙ ap (λ (s : State). walk newest s 0 rest) (version_after v rest h))

-- a fault at the first record is the answer
first_refused : (newest kind n : ℕ) (rest : List ℕ) → record_fault newest 0 kind rest ≡ suc n → read_settings newest (kind ∷ rest) ≡ Refused (suc n)
unfolding read_settings walk unless
first_refused newest kind n rest e = rw e

pub version_cut : (newest : ℕ) (rest : List ℕ) → length rest < 2 → read_settings newest (0 ∷ rest) ≡ Refused 1
unfolding placed ◌⇒◌∣◌
version_cut newest rest l =
    first_refused newest 0 0 rest (sym (presence_fault newest 0 0 rest (first_known 0) refl (let b = R.body_0 0 refl in omega arith)))

pub version_refused : (newest v : ℕ) (rest : List ℕ) → v < 65536 → takes newest v ≡ false → read_settings newest (version_record v ++ rest) ≡ Refused 14
unfolding version_record
version_refused newest v rest h t = first_refused newest 0 13 (bytes16 v ++ rest) (version_fault newest v rest ∙ sym (other_bytes newest v rest h t))

pub not_taken : (newest v : ℕ) → (v ≡ 1 → ⊥) → (v ≡ 2 → ⊥) → takes newest v ≡ false
unfolding takes
not_taken newest v a b = sym (case_no (eqb v 1) _ _ _ (ne_eqb v 1 a) (case_no (eqb v 2) _ _ _ (ne_eqb v 2 b) refl))

pub missing : (newest kind : ℕ) (rest : List ℕ) → 1 ≤ kind → kind ≤ 2 → read_settings newest (kind ∷ rest) ≡ Refused 12
missing newest kind rest h k =
    first_refused newest kind 11 rest (sym (place_fault newest 0 kind rest (first_known kind ∙ le-leb kind 2 k) (first_place kind h)))

pub unknown : (newest kind : ℕ) (rest : List ℕ) → 2 < kind → read_settings newest (kind ∷ rest) ≡ Refused 3
unknown newest kind rest h = first_refused newest kind 2 rest (sym (kind_fault newest 0 kind rest (first_known kind ∙ lt-leb kind 2 h)))

-- ---- a record of kind 1 or 2

none_of : (newest v kind : ℕ) (body : List ℕ) → 1 ≤ v → known v kind ≡ true → 1 ≤ kind → body_of kind ≤ length body → 0 ≡ settings_fault
    (settings_in kind body) →
    0 ≡ record_fault newest v kind body
unfolding record_fault front_fault bytes_fault
none_of newest v kind body hv k hk l f =
    goes_on _ _ _
    (sym (passes _ _ _ _ k (passes _ _ _ _ (placed_behind v kind hv hk) (passes _ _ _ _ (le-leb (body_of kind) (length body) l) refl))))
    (case_no (eqb kind 0) _ _ _ (ne_eqb kind 0 (λ e. omega arith)) f)

counts : (s : State) (kind : ℕ) (body : List ℕ) → 1 ≤ kind → after s kind body ≡ state s.version (Some (settings_in kind body))
unfolding after
counts s kind body h = sym (case_no (eqb kind 0) _ _ _ (ne_eqb kind 0 (λ e. omega arith)) refl)

-- behind a version, a record with its whole body and nothing to refuse is passed, and counts
good_step :
    (newest v kind : ℕ) (last : Option Settings) (t : Settings) (body rest : List ℕ)
    → 1 ≤ v
    → known v kind ≡ true
    → 1 ≤ kind
    → length body ≡ body_of kind
    → settings_in kind (body ++ rest) ≡ t
    → 0 ≡ settings_fault t
    → walk newest (state v last) 0 (kind ∷ (body ++ rest)) ≡ walk newest (state v (Some t)) 0 rest
unfolding walk
good_step newest v kind last t body rest hv k hk l e f =
    R.goes_on _ _ (none_of newest v kind (body ++ rest) hv k hk (omega (arith, length-append body rest)) (f ∙ ap settings_fault (sym e)))
    ∙ (R.walk_skip newest (after (state v last) kind (body ++ rest)) (body_of kind) (body ++ rest)
    ∙ ap₂ (λ (s : State) (bs : List ℕ). walk newest s 0 bs) (counts (state v last) kind (body ++ rest) hk ∙ ap (λ (t : Settings). state v (Some t)) e)
    (drop_at body rest (body_of kind) l))

-- its fields, as they stand
pub one_raw : (five rest : List ℕ) (mode : ℕ) → length five ≡ 5 → settings_in 1 (five ++ (mode ∷ rest)) ≡ settings (quant_of five) (quant_of five) mode
unfolding settings_in
one_raw five rest mode l =
    sym (case_yes (eqb 1 1) _ _ _ refl (sym (rw (take_at five (mode ∷ rest) 5 l, get_or_at five mode rest 0 5 l))))

pub two_raw : (luma chroma rest : List ℕ) (mode : ℕ) → length luma ≡ 5 → length chroma ≡ 5 →
    settings_in 2 (luma ++ (chroma ++ (mode ∷ rest))) ≡ settings (quant_of luma) (quant_of chroma) mode
unfolding settings_in
two_raw luma chroma rest mode l c =
    let more = chroma ++ (mode ∷ rest) in
    let m : get_or (luma ++ more) 10 0 ≡ mode =
    ap (λ (bs : List ℕ). get_or bs 10 0) (sym (append_assoc luma chroma (mode ∷ rest)))
    ∙ get_or_at (luma ++ chroma) mode rest 0 10 (omega (arith, length-append luma chroma)) in
    sym (case_no (eqb 2 1) _ _ _ refl (sym (rw (take_at luma more 5 l, drop_at luma more 5 l, take_at chroma (mode ∷ rest) 5 c, m))))

-- and as they were written
one_read : (q rest : List ℕ) (mode : ℕ) → GoodSettings (settings q q mode) → settings_in 1 ((quant_bytes q ++ (mode ∷ [])) ++ rest) ≡ settings q q mode
one_read q rest mode g =
    ap (settings_in 1) (append_assoc (quant_bytes q) (mode ∷ []) rest)
    ∙ (one_raw (quant_bytes q) rest mode (set_five q g.luma)
    ∙ ap (λ (v : List ℕ). settings v v mode) (quant_back q g.luma (good_set q (fine _ g.fine).luma)))

two_read : (luma chroma rest : List ℕ) (mode : ℕ) → GoodSettings (settings luma chroma mode) →
    settings_in 2 ((quant_bytes luma ++ (quant_bytes chroma ++ (mode ∷ []))) ++ rest) ≡ settings luma chroma mode
two_read luma chroma rest mode g =
    let f = fine _ g.fine in
    ap (settings_in 2)
    (append_assoc (quant_bytes luma) (quant_bytes chroma ++ (mode ∷ [])) rest
    ∙ ap (λ (x : List ℕ). quant_bytes luma ++ x) (append_assoc (quant_bytes chroma) (mode ∷ []) rest))
    ∙ (two_raw (quant_bytes luma) (quant_bytes chroma) rest mode (set_five luma g.luma) (set_five chroma g.chroma)
    ∙ ap₂ (λ (v u : List ℕ). settings v u mode) (quant_back luma g.luma (good_set luma f.luma))
    (quant_back chroma g.chroma (good_set chroma f.chroma)))

record_walked : (newest v : ℕ) (last : Option Settings) (r : Setting) (rest : List ℕ) → 1 ≤ v → known v (kind_of r) ≡ true → GoodSettings (said_by r) →
    walk newest (state v last) 0 (record_of r ++ rest) ≡ walk newest (state v (Some (said_by r))) 0 rest
unfolding one_record two_record
record_walked newest v last (one q mode) rest h k g =
    good_step newest v 1 last (settings q q mode) (quant_bytes q ++ (mode ∷ [])) rest h k (omega arith)
    (one_body q mode g.luma ∙ R.body_1 1 refl) (one_read q rest mode g) g.fine
record_walked newest v last (two luma chroma mode) rest h k g =
    good_step newest v 2 last (settings luma chroma mode) (quant_bytes luma ++ (quant_bytes chroma ++ (mode ∷ []))) rest h k (omega arith)
    (two_body luma chroma mode g.luma g.chroma ∙ R.body_2 2 (λ e. omega arith) (λ e. omega arith))
    (two_read luma chroma rest mode g) g.fine

-- ---- all of them

-- what good records make of what was said
abbrev pub after_all : ℕ → Option Settings → List Setting → State
after_all v last [] = state v last
after_all v last (r ∷ rs) = after_all v (Some (said_by r)) rs

all_walked : (newest v : ℕ) (last : Option Settings) (rs : List Setting) (rest : List ℕ) → 1 ≤ v → AllGood v rs →
    walk newest (state v last) 0 (records_of rs ++ rest) ≡ walk newest (after_all v last rs) 0 rest
unfolding records_of
all_walked newest v last [] rest h g = refl
all_walked newest v last (r ∷ rs) rest h g =
    ap (walk newest (state v last) 0) (append_assoc (record_of r) (records_of rs) rest)
    ∙ (record_walked newest v last r (records_of rs ++ rest) h g.0 g.1.0 ∙ all_walked newest v (Some (said_by r)) rs rest h g.1.1)

pub store_walked : (newest v : ℕ) (rs : List Setting) (rest : List ℕ) → takes newest v ≡ true → AllGood v rs →
    read_settings newest (store_of v rs ++ rest) ≡ walk newest (after_all v None rs) 0 rest
store_walked newest v rs rest t g =
    ap (read_settings newest) (append_assoc (version_record v) (records_of rs) rest)
    ∙ (version_walked newest v (records_of rs ++ rest) t ∙ all_walked newest v None rs rest (taken_small newest v t).0 g)

last_said : (v : ℕ) (last : Option Settings) (r : Setting) (rs : List Setting) → after_all v last (r ∷ rs) ≡ state v (Some (said_by (last_of r rs)))
last_said v last r [] = refl
last_said v last r (q ∷ rs) = last_said v (Some (said_by r)) q rs

version_stays : (v : ℕ) (last : Option Settings) (rs : List Setting) → (after_all v last rs).version ≡ v
version_stays v last [] = refl
version_stays v last (r ∷ rs) = version_stays v (Some (said_by r)) rs

pub last_kept : (newest v : ℕ) (r : Setting) (rs : List Setting) → takes newest v ≡ true → AllGood v (r ∷ rs) →
    read_settings newest (store_of v (r ∷ rs)) ≡ Kept (said_by (last_of r rs))
unfolding walk ended last_or
last_kept newest v r rs t g =
    ap (read_settings newest) (sym (append-nil (store_of v (r ∷ rs))))
    ∙ (store_walked newest v (r ∷ rs) [] t g
    ∙ (ap (λ (s : State). walk newest s 0 []) (last_said v None r rs)
    ∙ sym (case_no (eqb v 0) _ _ _ (ne_eqb v 0 (λ e. omega (arith, (taken_small newest v t).0))) refl)))

pub alone : (newest v : ℕ) → takes newest v ≡ true → read_settings newest (version_record v) ≡ Refused 15
unfolding walk ended last_or
alone newest v t =
    ap (read_settings newest) (sym (append-nil (version_record v)))
    ∙ (version_walked newest v [] t
    ∙ sym (case_no (eqb v 0) _ _ _ (ne_eqb v 0 (λ e. omega (arith, (taken_small newest v t).0))) refl))

-- the first fault behind them
pub fault_said : (newest v kind n : ℕ) (rs : List Setting) (rest : List ℕ) → takes newest v ≡ true → AllGood v rs → record_fault newest v kind rest ≡ suc n →
    read_settings newest (store_of v rs ++ (kind ∷ rest)) ≡ Refused (suc n)
unfolding walk unless
fault_said newest v kind n rs rest t g e =
    store_walked newest v rs (kind ∷ rest) t g ∙ rw (version_stays v None rs, e)

-- ---- bytes that are refused as they stand, behind a version

-- kind, place and presence are in order: the settings' fault decides
body_fault : (newest v kind n : ℕ) (body : List ℕ) (s : Settings) → 1 ≤ v → known v kind ≡ true → 1 ≤ kind → body_of kind ≤ length body →
    settings_in kind body ≡ s → n ≡ settings_fault s → n ≡ record_fault newest v kind body
unfolding record_fault front_fault bytes_fault
body_fault newest v kind n body s hv k hk l e f =
    goes_on _ _ _
    (sym (passes _ _ _ _ k (passes _ _ _ _ (placed_behind v kind hv hk) (passes _ _ _ _ (le-leb (body_of kind) (length body) l) refl))))
    (case_no (eqb kind 0) _ _ _ (ne_eqb kind 0 (λ z. omega arith)) (f ∙ ap settings_fault (sym e)))

module _ (luma chroma : List ℕ) (mode : ℕ) where
  pub set_refused : (is_good luma ≡ false) ⊎ (is_good chroma ≡ false) → 7 ≡ settings_fault (settings luma chroma mode)
  unfolding settings_fault ◌!◌⨾◌
  set_refused (inl l) = fails _ _ _ _ l refl
  set_refused (inr c) = first (is_good luma) (fails _ _ _ _ c refl)
    where
      first : (t : Bool) {rest : ℕ} → 7 ≡ rest → 7 ≡ (t ! 7 ⨾ rest)
      first true e = e
      first false e = refl

  pub mode_refused : is_good luma ≡ true → is_good chroma ≡ true → is_mode mode ≡ false → 5 ≡ settings_fault (settings luma chroma mode)
  unfolding settings_fault
  mode_refused l c m = passes _ _ _ _ l (passes _ _ _ _ c (fails _ _ _ _ m refl))

known_one : (newest v : ℕ) → takes newest v ≡ true → known v 1 ≡ true
unfolding known
known_one newest v t = ⊎_elim (λ e. rw e (sym (case_yes (eqb 1 1) _ _ _ refl refl))) (λ e. rw e (sym (case_no (eqb 2 1) _ _ _ refl refl))) (taken_is newest v t)

known_two : known 2 2 ≡ true
unfolding known ◌⇒◌∣◌
known_two = refl

-- kind 1
pub one_refused : (newest v mode n : ℕ) (rs : List Setting) (five more : List ℕ) → takes newest v ≡ true → AllGood v rs → length five ≡ 5 →
    suc n ≡ settings_fault (settings (quant_of five) (quant_of five) mode) → read_settings newest (store_of v rs ++ (1 ∷ (five ++ (mode ∷ more)))) ≡ Refused
    (suc n)
one_refused newest v mode n rs five more t g l f =
    fault_said newest v 1 n rs (five ++ (mode ∷ more)) t g
    (sym (body_fault newest v 1 (suc n) _ _ (taken_small newest v t).0 (known_one newest v t) (omega arith)
    (let b = R.body_1 1 refl in let a = length-append five (mode ∷ more) in omega arith) (one_raw five more mode l) f))

-- kind 2
pub two_refused : (newest mode n : ℕ) (rs : List Setting) (luma chroma more : List ℕ) → takes newest 2 ≡ true → AllGood 2 rs → length luma ≡ 5 →
    length chroma ≡ 5 → suc n ≡ settings_fault (settings (quant_of luma) (quant_of chroma) mode) →
    read_settings newest (store_of 2 rs ++ (2 ∷ (luma ++ (chroma ++ (mode ∷ more))))) ≡ Refused (suc n)
two_refused newest mode n rs luma chroma more t g l c f =
    fault_said newest 2 2 n rs (luma ++ (chroma ++ (mode ∷ more))) t g
    (sym (body_fault newest 2 2 (suc n) _ _ (omega arith) known_two (omega arith)
    (let b = R.body_2 2 (λ z. omega arith) (λ z. omega arith) in
    let x = length-append luma (chroma ++ (mode ∷ more)) in
    let y = length-append chroma (mode ∷ more) in
    omega arith) (two_raw luma chroma more mode l c) f))

-- which kinds are foreign
pub foreign : (v kind : ℕ) → (2 < kind) ⊎ ((v ≡ 1) × (1 < kind)) → known v kind ≡ false
unfolding known ◌⇒◌∣◌
foreign v kind (inl l) = either_way (eqb v 1)
  where
    either_way : (t : Bool) → (t ⇒ leb kind 1 ∣ leb kind 2) ≡ false
    either_way true = lt-leb kind 1 (omega arith)
    either_way false = lt-leb kind 2 l
foreign v kind (inr l) = sym (case_yes (eqb v 1) _ _ _ (eq-eqb v 1 l.0) (sym (lt-leb kind 1 l.1)))
