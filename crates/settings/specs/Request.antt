-- 02's request Five, the settings, over the calls: what may be relied on, sentence by sentence. `request_five` (specs/laws/Request) proves all of it.
-- (01 is this project's scope document, 02 its change requests, 001 is MS-RDPRFX: README, "What 01 is".)
use Rattle.std.specs.Prelude.{ℕ, suc, ◌≤◌, ◌<◌, ◌≡◌, true, false, ◌⊎◌, Result, List, [], ◌∷◌, ◌++◌, length, take}
use Rattle.whole.specs.Row.{◌⇒◌∣◌}
use Rattle.whole.specs.Among.{Among}
use Rattle.wire.specs.Mode.{is_mode}
use Rattle.wire.specs.Refusal.{number_of, count_of}
use Rattle.wire.specs.Wrote.{Wrote}
use Rattle.wire.specs.declared.Refusal.{Refusal}
use Rattle.bands.specs.Bands.{quant_of, is_good}
use Rattle.quants.specs.Quants.{same}
use Rattle.settings.specs.Settings.{Reading, settings, Kept, Refused, store_number, given, body_of, known, takes, record_fault, read_settings}
use Rattle.settings.specs.Settings.{version_record, one_record, two_record}
use Rattle.settings.specs.Settings.{settings_of, write_fault, GoodSettings}
use Rattle.settings.specs.declared.Settings.{Settings}

-- ---- a store: a version record, and records of kind 1 or 2 behind it

pub data Setting : Type 0 where
  one : List ℕ → ℕ → Setting
  two : List ℕ → List ℕ → ℕ → Setting

abbrev pub record_of : Setting → List ℕ
record_of (one q mode) = one_record q mode
record_of (two luma chroma mode) = two_record luma chroma mode

abbrev pub kind_of : Setting → ℕ
kind_of (one q mode) = 1
kind_of (two luma chroma mode) = 2

abbrev pub said_by : Setting → Settings
said_by (one q mode) = settings q q mode
said_by (two luma chroma mode) = settings luma chroma mode

unfoldable pub records_of : List Setting → List ℕ
records_of [] = []
records_of (r ∷ rs) = record_of r ++ records_of rs

abbrev pub store_of : ℕ → List Setting → List ℕ
store_of version rs = version_record version ++ records_of rs

-- records that the version allows, with nothing to refuse
abbrev pub AllGood : ℕ → List Setting → Type 0
AllGood version [] = Unit
AllGood version (r ∷ rs) = (known version (kind_of r) ≡ true) × (GoodSettings (said_by r) × AllGood version rs)

-- the last of them
abbrev pub last_of : Setting → List Setting → Setting
last_of r [] = r
last_of r (q ∷ rs) = last_of q rs

-- ---- the writer's call: what was given, what was answered, and the output afterwards

pub record WriteSettings : Type 0 where
  pub settings : Settings
  pub luma : length settings.quants.luma.v ≡ 10
  pub chroma : length settings.quants.chroma.v ≡ 10
  pub out : List ℕ
  pub out' : List ℕ
  pub answer : Result ℕ Refusal
  pub promise : Wrote (write_fault settings (length out)) (settings_of settings) out out' answer

-- what it has written, where it is done
abbrev pub written_by : WriteSettings → List ℕ
written_by c = take (count_of c.answer) c.out'

pub record RequestFive : Type 0 where
  -- one answer alone meets the reader's promise, and one answer and one content of the output the writer's
  pub one_answer : (newest : ℕ) (m : List ℕ) (r r' : Reading) → r ≡ read_settings newest m → r' ≡ read_settings newest m → r ≡ r'
  pub one_output :
      (s : Settings) (out a b : List ℕ) (r q : Result ℕ Refusal)
      → Wrote (write_fault s (length out)) (settings_of s) out a r
      → Wrote (write_fault s (length out)) (settings_of s) out b q
      → (r ≡ q) × (a ≡ b)
  -- "an empty store 1, version alone 15"
  pub empty : (newest : ℕ) → read_settings newest [] ≡ Refused 1
  pub version_alone : (newest v : ℕ) → takes newest v ≡ true → read_settings newest (version_record v) ≡ Refused 15
  -- "A version 1 reader meeting version 2 refuses with 14, never guessing", "a version that is neither 1 nor 2 is 14", whatever follows
  pub never_guessing : (rest : List ℕ) → read_settings 1 (version_record 2 ++ rest) ≡ Refused 14
  pub other_version : (newest v : ℕ) (rest : List ℕ) → v < 65536 → (v ≡ 1 → ⊥) → (v ≡ 2 → ⊥) → read_settings newest (version_record v ++ rest) ≡ Refused 14
  -- "a short record 1": a version record that is cut
  pub cut_version : (newest : ℕ) (rest : List ℕ) → length rest < 2 → read_settings newest (0 ∷ rest) ≡ Refused 1
  -- "a .. missing version record 12"; "until a version is read, all three count as known", any other is 3
  pub missing_version : (newest kind : ℕ) (rest : List ℕ) → 1 ≤ kind → kind ≤ 2 → read_settings newest (kind ∷ rest) ≡ Refused 12
  pub unknown_first : (newest kind : ℕ) (rest : List ℕ) → 2 < kind → read_settings newest (kind ∷ rest) ≡ Refused 3
  -- "The last record of kind 1 or 2 counts"
  pub last_counts :
      (newest v : ℕ) (r : Setting) (rs : List Setting)
      → takes newest v ≡ true
      → AllGood v (r ∷ rs)
      → read_settings newest (store_of v (r ∷ rs)) ≡ Kept (said_by (last_of r rs))
  -- "First fault in order wins; within a record kind, place (12), presence, then its bytes as they stand": behind good records, whatever follows
  pub first-fault :
      (newest v kind n : ℕ) (rs : List Setting) (rest : List ℕ)
      → takes newest v ≡ true
      → AllGood v rs
      → record_fault newest v kind rest ≡ suc n
      → read_settings newest (store_of v rs ++ (kind ∷ rest)) ≡ Refused (suc n)
  -- and the number said is the one of the fault
  pub first_number :
      (newest v kind n : ℕ) (rs : List Setting) (rest : List ℕ)
      → takes newest v ≡ true
      → AllGood v rs
      → record_fault newest v kind rest ≡ suc n
      → store_number (read_settings newest (store_of v rs ++ (kind ∷ rest))) ≡ suc n
  -- "Version 1 allows kinds 0 and 1, version 2 all three", "an unknown kind is 3"
  pub unknown_kind :
      (newest v kind : ℕ) (rs : List Setting) (rest : List ℕ)
      → takes newest v ≡ true
      → AllGood v rs
      → (2 < kind) ⊎ ((v ≡ 1) × (1 < kind))
      → read_settings newest (store_of v rs ++ (kind ∷ rest)) ≡ Refused 3
  -- "a second .. version record 12"
  pub second_version :
      (newest v : ℕ) (rs : List Setting) (rest : List ℕ) → takes newest v ≡ true → AllGood v rs → read_settings newest (store_of v rs ++ (0 ∷ rest)) ≡ Refused
      12
  -- "a short record 1"
  pub short_record :
      (newest v kind : ℕ) (rs : List Setting) (rest : List ℕ)
      → takes newest v ≡ true
      → AllGood v rs
      → known v kind ≡ true
      → 1 ≤ kind
      → length rest < body_of kind
      → read_settings newest (store_of v rs ++ (kind ∷ rest)) ≡ Refused 1
  -- "a bad quantiser 7, a bad mode 5", "its bytes as they stand": of kind 1 five quantiser bytes before the mode, of kind 2 luma's, then chroma's, then the
  -- mode; whatever follows
  pub bad_quantiser :
      (newest v mode : ℕ) (rs : List Setting) (five more : List ℕ)
      → takes newest v ≡ true
      → AllGood v rs
      → length five ≡ 5
      → is_good (quant_of five) ≡ false
      → read_settings newest (store_of v rs ++ (1 ∷ (five ++ (mode ∷ more)))) ≡ Refused 7
  pub bad_mode :
      (newest v mode : ℕ) (rs : List Setting) (five more : List ℕ)
      → takes newest v ≡ true
      → AllGood v rs
      → length five ≡ 5
      → is_good (quant_of five) ≡ true
      → is_mode mode ≡ false
      → read_settings newest (store_of v rs ++ (1 ∷ (five ++ (mode ∷ more)))) ≡ Refused 5
  pub bad_either :
      (newest mode : ℕ) (rs : List Setting) (luma chroma more : List ℕ)
      → takes newest 2 ≡ true
      → AllGood 2 rs
      → length luma ≡ 5
      → length chroma ≡ 5
      → (is_good (quant_of luma) ≡ false) ⊎ (is_good (quant_of chroma) ≡ false)
      → read_settings newest (store_of 2 rs ++ (2 ∷ (luma ++ (chroma ++ (mode ∷ more))))) ≡ Refused 7
  pub bad_mode_behind :
      (newest mode : ℕ) (rs : List Setting) (luma chroma more : List ℕ)
      → takes newest 2 ≡ true
      → AllGood 2 rs
      → length luma ≡ 5
      → length chroma ≡ 5
      → is_good (quant_of luma) ≡ true
      → is_good (quant_of chroma) ≡ true
      → is_mode mode ≡ false
      → read_settings newest (store_of 2 rs ++ (2 ∷ (luma ++ (chroma ++ (mode ∷ more))))) ≡ Refused 5
  -- "Equal luma and chroma are written as version 1 and kind 1, else version 2 and kind 2"
  pub equal_written : (s : Settings) → same s.quants ≡ true → settings_of s ≡ store_of 1 (one s.quants.luma.v s.mode ∷ [])
  pub else_written :
      (s : Settings) → same s.quants ≡ false → settings_of s ≡ store_of 2 (two s.quants.luma.v s.quants.chroma.v s.mode ∷ [])
  -- "Reading what was written gives the settings back"; a version 1 reader takes them if the sets are equal, and else never guesses
  pub kept_back : (s : Settings) → GoodSettings s → read_settings 2 (settings_of s) ≡ Kept s
  pub old_reader : (s : Settings) → GoodSettings s → read_settings 1 (settings_of s) ≡ (same s.quants ⇒ Kept s ∣ Refused 14)
  -- the same of a call that is done
  pub call_back : (c : WriteSettings) → number_of c.answer ≡ 0 → read_settings 2 (written_by c) ≡ Kept c.settings
  pub old_call :
      (c : WriteSettings) → number_of c.answer ≡ 0 → read_settings 1 (written_by c) ≡ (same c.settings.quants ⇒ Kept c.settings ∣ Refused 14)
  -- settings that a reader gives are such as the frame writer takes, and this writer
  pub given_good : (newest : ℕ) (m : List ℕ) → store_number (read_settings newest m) ≡ 0 → GoodSettings (given (read_settings newest m))
  -- which numbers a reader answers
  pub numbers : (newest : ℕ) (m : List ℕ) → Among (0 ∷ 1 ∷ 3 ∷ 5 ∷ 7 ∷ 12 ∷ 14 ∷ 15 ∷ []) (store_number (read_settings newest m))
