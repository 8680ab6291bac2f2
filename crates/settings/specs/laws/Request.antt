-- All that specs/Request states is so.
-- Assumes nothing.
use Rattle.std.specs.Prelude.{ℕ, suc, ◌<◌, ◌≡◌, refl, Bool, true, false, List, [], ◌∷◌, ◌++◌, eqb, leb, length}
use Rattle.std.proofs.Common.{ap, sym, ◌∙◌, inl, append-nil, arith}
use Rattle.whole.specs.Row.{◌⇒◌∣◌}
use Rattle.whole.specs.laws.Row.{both, case_yes, case_no}
use Rattle.wire.specs.Refusal.{number_of}
use Rattle.wire.specs.laws.Wrote.{wrote_once, wrote_bytes}
use Rattle.bands.specs.declared.Quant.{Quant}
use Rattle.quants.specs.Quants.{same}
use Rattle.quants.specs.laws.Quants.{same_is}
use Rattle.settings.specs.Settings.{settings, Kept, Refused, store_number, known, takes, record_fault, ended, walk, read_settings, version_record, one_record}
use Rattle.settings.specs.Settings.{two_record, settings_of, write_fault, GoodSettings}
use Rattle.settings.specs.Request.{Setting, one, two, records_of, store_of, AllGood, WriteSettings, written_by, RequestFive}
use Rattle.settings.specs.laws.Good.{given_good, fault_most, read_among}
use Rattle.settings.specs.laws.Read.{number_of_why}
use Rattle.settings.specs.laws.Store.{kind_fault, place_fault, presence_fault, placed_behind, version_again, taken_small, version_refused, not_taken}
use Rattle.settings.specs.laws.Store.{version_cut, missing, unknown, last_kept, alone, fault_said, set_refused, mode_refused}
use Rattle.settings.specs.laws.Store.{one_refused, two_refused, foreign}
use Rattle.settings.specs.laws.Write.{of_one, of_two}
use Rattle.settings.specs.declared.Settings.{Settings}

-- ---- written and read

equal_store : (s : Settings) → same s.quants ≡ true → settings_of s ≡ store_of 1 (one s.quants.luma.v s.mode ∷ [])
unfolding records_of
equal_store s e = of_one s e ∙ ap (λ (x : List ℕ). version_record 1 ++ x) (sym (append-nil (one_record s.quants.luma.v s.mode)))

else_store : (s : Settings) → same s.quants ≡ false → settings_of s ≡ store_of 2 (two s.quants.luma.v s.quants.chroma.v s.mode ∷ [])
unfolding records_of
else_store s e = of_two s e ∙ ap (λ (x : List ℕ). version_record 2 ++ x) (sym (append-nil (two_record s.quants.luma.v s.quants.chroma.v s.mode)))

known_1 : known 1 1 ≡ true
unfolding known ◌⇒◌∣◌
known_1 = refl

known_2 : known 2 2 ≡ true
unfolding known ◌⇒◌∣◌
known_2 = refl

-- equal sets: the settings are those of the one set
one_set : (s : Settings) → same s.quants ≡ true → settings s.quants.luma.v s.quants.luma.v s.mode ≡ s
one_set s e = ap (λ (q : Quant). record { quants = record { luma = s.quants.luma; chroma = q }; mode = s.mode }) (same_is s.quants e)

good_one : (s : Settings) → same s.quants ≡ true → GoodSettings s → GoodSettings (settings s.quants.luma.v s.quants.luma.v s.mode)
good_one s e g = rw (one_set s e) g

-- a reader that takes version 1 gives equal sets back, one that takes 2 any others
equal_back : (newest : ℕ) (s : Settings) → takes newest 1 ≡ true → same s.quants ≡ true → GoodSettings s → read_settings newest (settings_of s) ≡ Kept s
equal_back newest s t e g =
    ap (read_settings newest) (equal_store s e)
    ∙ (last_kept newest 1 (one s.quants.luma.v s.mode) [] t (known_1, (good_one s e g, tt)) ∙ ap Kept (one_set s e))

else_back : (newest : ℕ) (s : Settings) → takes newest 2 ≡ true → same s.quants ≡ false → GoodSettings s → read_settings newest (settings_of s) ≡ Kept s
else_back newest s t e g =
    ap (read_settings newest) (else_store s e)
    ∙ last_kept newest 2 (two s.quants.luma.v s.quants.chroma.v s.mode) [] t (known_2, (g, tt))

-- which versions the two readers take
takes_2 : (takes 2 1 ≡ true) × (takes 2 2 ≡ true)
unfolding takes ◌⇒◌∣◌
takes_2 = (refl, refl)

takes_1 : (takes 1 1 ≡ true) × (takes 1 2 ≡ false)
unfolding takes ◌⇒◌∣◌
takes_1 = (refl, refl)

-- a version is always a known kind
always : (v : ℕ) → known v 0 ≡ true
unfolding known ◌⇒◌∣◌
always v = either_way (eqb v 1)
  where
    either_way : (t : Bool) → (t ⇒ leb 0 1 ∣ leb 0 2) ≡ true
    either_way true = refl
    either_way false = refl

by_sets : {A : Type 0} (b : Bool) → (b ≡ true → A) → (b ≡ false → A) → A
by_sets true y n = y refl
by_sets false y n = n refl

back : (s : Settings) → GoodSettings s → read_settings 2 (settings_of s) ≡ Kept s
back s g = by_sets (same s.quants) (λ e. equal_back 2 s takes_2.0 e g) (λ e. else_back 2 s takes_2.1 e g)

guessing : (rest : List ℕ) → read_settings 1 (version_record 2 ++ rest) ≡ Refused 14
guessing rest = version_refused 1 2 rest (omega arith) takes_1.1

old : (s : Settings) → GoodSettings s → read_settings 1 (settings_of s) ≡ (same s.quants ⇒ Kept s ∣ Refused 14)
old s g = by_sets (same s.quants) (λ e. case_yes _ _ _ _ e (equal_back 1 s takes_1.0 e g))
    (λ e. case_no _ _ _ _ e (ap (read_settings 1) (else_store s e) ∙ guessing _))

-- a call that is done has written them, and had nothing to refuse
call_good : (c : WriteSettings) → number_of c.answer ≡ 0 → GoodSettings c.settings
unfolding write_fault
call_good c e = record { luma = c.luma; chroma = c.chroma; fine = (both _ _ (sym e ∙ c.promise.number)).0 }

call_wrote : (c : WriteSettings) → number_of c.answer ≡ 0 → written_by c ≡ settings_of c.settings
call_wrote c e = wrote_bytes _ (settings_of c.settings) c.out c.out' c.answer c.promise e

some_bytes : (s : Settings) → 0 < length (settings_of s)
unfolding version_record
some_bytes s = by_sets (same s.quants) (λ e. rw (of_one s e) (omega arith)) (λ e. rw (of_two s e) (omega arith))

empty_read : (newest : ℕ) → read_settings newest [] ≡ Refused 1
unfolding read_settings walk ended ◌⇒◌∣◌
empty_read newest = refl

-- the first fault by its number, which is 15 at most
fault_number : (newest v kind n : ℕ) (rs : List Setting) (rest : List ℕ) → takes newest v ≡ true → AllGood v rs → record_fault newest v kind rest ≡ suc n →
    store_number (read_settings newest (store_of v rs ++ (kind ∷ rest))) ≡ suc n
fault_number newest v kind n rs rest t g e =
    ap store_number (fault_said newest v kind n rs rest t g e) ∙ number_of_why (suc n) (omega arith) (omega (arith, e, fault_most newest v kind rest))

pub request_five : RequestFive
request_five = record {
  one_answer = λ newest m r r' e f. e ∙ sym f;
  one_output = λ s out a b r q x y. wrote_once _ (settings_of s) out a b r q (λ z. some_bytes s) x y;
  empty = empty_read;
  version_alone = alone;
  never_guessing = guessing;
  other_version = λ newest v rest h a b. version_refused newest v rest h (not_taken newest v a b);
  cut_version = version_cut;
  missing_version = missing;
  unknown_first = unknown;
  last_counts = last_kept;
  first-fault = fault_said;
  first_number = fault_number;
  unknown_kind = λ newest v kind rs rest t g k. fault_said newest v kind 2 rs rest t g (sym (kind_fault newest v kind rest (foreign v kind k)));
  second_version = λ newest v rs rest t g.
      fault_said newest v 0 11 rs rest t g (sym (place_fault newest v 0 rest (always v) (version_again v (taken_small newest v t).0)));
  short_record = λ newest v kind rs rest t g k h l.
      fault_said newest v kind 0 rs rest t g (sym (presence_fault newest v kind rest k (placed_behind v kind (taken_small newest v t).0 h) l));
  bad_quantiser = λ newest v mode rs five more t g l b. one_refused newest v mode 6 rs five more t g l (set_refused _ _ mode (inl b));
  bad_mode = λ newest v mode rs five more t g l b m. one_refused newest v mode 4 rs five more t g l (mode_refused _ _ mode b b m);
  bad_either = λ newest mode rs luma chroma more t g l c b. two_refused newest mode 6 rs luma chroma more t g l c (set_refused _ _ mode b);
  bad_mode_behind = λ newest mode rs luma chroma more t g l c a b m. two_refused newest mode 4 rs luma chroma more t g l c (mode_refused _ _ mode a b m);
  equal_written = equal_store;
  else_written = else_store;
  kept_back = back;
  old_reader = old;
  call_back = λ c e. rw (call_wrote c e) (back c.settings (call_good c e));
  old_call = λ c e. rw (call_wrote c e) (old c.settings (call_good c e));
  given_good = given_good;
  numbers = read_among;
}
