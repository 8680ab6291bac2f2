-- Settings as records: what a reader answers, and what is written. 02, request Five: "Settings are records, each one byte of kind and a body whose length
-- the kind fixes: kind 0, two bytes version, low first (first, once); kind 1, five quantiser bytes and one mode byte; kind 2, five luma, five chroma
-- quantiser bytes and one mode byte."
-- (01 is this project's scope document, 02 its change requests, 001 is MS-RDPRFX: README, "What 01 is".)
use Rattle.std.specs.Prelude.{ℕ, zero, suc, ◌≡◌, Bool, true, false, Option, Some, None, Result, Ok, Err, List, [], ◌∷◌, ◌++◌, eqb, leb, length, get_or}
use Rattle.std.specs.Prelude.{take, drop, replicate}
use Rattle.whole.specs.Row.{◌!◌⨾◌, ◌⇒◌∣◌, ◌⨟◌}
use Rattle.wire.specs.Le.{le16, bytes16}
use Rattle.wire.specs.Mode.{is_mode}
use Rattle.wire.specs.Refusal.{refusal_number, refusal_of, number_by}
use Rattle.bands.specs.Bands.{quant_of, is_good}
use Rattle.quants.specs.Quants.{quant_bytes, same}
use Rattle.settings.specs.declared.Settings.{Settings}
use Rattle.settings.specs.declared.StoreRefusal.{StoreRefusal}
use Rattle.settings.specs.declared.StoreRefusal.TheVariants.{Common, Version, Alone}
use Rattle.settings.specs.declared.read.State.{State}

-- settings by their ten luma and ten chroma values, and the mode
abbrev pub settings : List ℕ → List ℕ → ℕ → Settings
settings luma chroma mode = record { quants = record { luma = record { v = luma }; chroma = record { v = chroma } }; mode = mode }

abbrev pub no_settings : Settings
no_settings = settings (replicate 10 0) (replicate 10 0) 0

-- ---- what a reader answers: the settings, or why it refuses

-- the number of a refusal: 01's, or one of those that request Five adds, 14 and 15
abbrev pub why_number : StoreRefusal → ℕ
why_number (Common refusal) = refusal_number refusal
why_number Version = 14
why_number Alone = 15

-- the refusal of a number
unfoldable pub why_of : ℕ → StoreRefusal
why_of n =
    eqb n 14 ⇒ Version ∣
    eqb n 15 ⇒ Alone ∣
    Common (refusal_of n)

abbrev pub Reading : Type 0
Reading = Result Settings StoreRefusal

abbrev pub Kept : Settings → Reading
Kept s = Ok s

abbrev pub Refused : ℕ → Reading
Refused n = Err (why_of n)

-- the number of an answer, 0 where it is done
abbrev pub store_number : {A : Type 0} → Result A StoreRefusal → ℕ
store_number answer = number_by why_number answer

-- a refusal gives no settings, all of them are 0
abbrev pub given : Reading → Settings
given (Ok s) = s
given (Err why) = no_settings

-- ---- one record: its kind, and the bytes behind the kind

-- "a body whose length the kind fixes"
unfoldable pub body_of : ℕ → ℕ
body_of kind =
    eqb kind 0 ⇒ 2 ∣
    eqb kind 1 ⇒ 6 ∣
    11

-- "Version 1 allows kinds 0 and 1, version 2 all three; until a version is read, all three count as known": no version read is 0
unfoldable pub known : ℕ → ℕ → Bool
known version kind = eqb version 1 ⇒ leb kind 1 ∣ leb kind 2

-- "kind 0 .. (first, once)": where no version is read, this record is the first
unfoldable pub placed : ℕ → ℕ → Bool
placed version kind = eqb version 0 ⇒ eqb kind 0 ∣ (eqb kind 0 ⇒ false ∣ true)

-- "within a record kind, place (12), presence": "an unknown kind is 3", "a second or missing version record 12", "a short record 1"
unfoldable pub front_fault : ℕ → ℕ → ℕ → ℕ
front_fault version kind left =
    known version kind ! 3 ⨾
    placed version kind ! 12 ⨾
    leb (body_of kind) left ! 1 ⨾
    0

-- "A version 1 reader meeting version 2 refuses with 14", "a version that is neither 1 nor 2 is 14": which versions a reader takes, by the newest it knows
unfoldable pub takes : ℕ → ℕ → Bool
takes newest version =
    eqb version 1 ⇒ leb 1 newest ∣
    eqb version 2 ⇒ leb 2 newest ∣
    false

-- the settings of a body of kind 1, which has one set for luma and chroma, or of kind 2
unfoldable pub settings_in : ℕ → List ℕ → Settings
settings_in kind body =
    eqb kind 1 ⇒ settings (quant_of (take 5 body)) (quant_of (take 5 body)) (get_or body 5 0) ∣
    settings (quant_of (take 5 body)) (quant_of (take 5 (drop 5 body))) (get_or body 10 0)

-- "a bad quantiser 7, a bad mode 5", in the order of the bytes
unfoldable pub settings_fault : Settings → ℕ
settings_fault s =
    is_good s.quants.luma.v ! 7 ⨾
    is_good s.quants.chroma.v ! 7 ⨾
    is_mode s.mode ! 5 ⨾
    0

-- "then its bytes as they stand"
unfoldable pub bytes_fault : ℕ → ℕ → List ℕ → ℕ
bytes_fault newest kind body =
    eqb kind 0 ⇒ (takes newest (le16 body 0) ! 14 ⨾ 0) ∣
    settings_fault (settings_in kind body)

-- "within a record kind, place (12), presence, then its bytes as they stand"
unfoldable pub record_fault : ℕ → ℕ → ℕ → List ℕ → ℕ
record_fault newest version kind rest = front_fault version kind (length rest) ⨟ bytes_fault newest kind rest

-- ---- all records, one after the other

-- what the records so far have said: the version, or 0; the last setting, if there was one
abbrev pub state : ℕ → Option Settings → State
state version last = record { version = version; last = last }

abbrev pub start : State
start = state 0 None

-- "The last record of kind 1 or 2 counts"
unfoldable pub after : State → ℕ → List ℕ → State
after s kind body =
    eqb kind 0 ⇒ state (le16 body 0) s.last ∣
    state s.version (Some (settings_in kind body))

-- "an empty store 1, version alone 15"
unfoldable pub last_or : Option Settings → Reading
last_or (Some s) = Kept s
last_or None = Refused 15

unfoldable pub ended : State → Reading
ended s =
    eqb s.version 0 ⇒ Refused 1 ∣
    last_or s.last

-- a fault ends the reading
unfoldable pub unless : ℕ → Reading → Reading
unless zero r = r
unless (suc n) r = Refused (suc n)

-- "First fault in order wins": what has been said, how many bytes of the last record's body are still to be passed, and the bytes
unfoldable pub walk : ℕ → State → ℕ → List ℕ → Reading
walk newest s skip [] = ended s
walk newest s zero (kind ∷ rest) = unless (record_fault newest s.version kind rest) (walk newest (after s kind rest) (body_of kind) rest)
walk newest s (suc skip) (b ∷ rest) = walk newest s skip rest

unfoldable pub read_settings : ℕ → List ℕ → Reading
read_settings newest m = walk newest start 0 m

-- ---- what is written

unfoldable pub version_record : ℕ → List ℕ
version_record version = 0 ∷ bytes16 version

unfoldable pub one_record : List ℕ → ℕ → List ℕ
one_record q mode = 1 ∷ (quant_bytes q ++ (mode ∷ []))

unfoldable pub two_record : List ℕ → List ℕ → ℕ → List ℕ
two_record luma chroma mode = 2 ∷ (quant_bytes luma ++ (quant_bytes chroma ++ (mode ∷ [])))

-- "Equal luma and chroma are written as version 1 and kind 1, else version 2 and kind 2."
unfoldable pub settings_of : Settings → List ℕ
settings_of s =
    same s.quants ⇒ (version_record 1 ++ one_record s.quants.luma.v s.mode) ∣
    (version_record 2 ++ two_record s.quants.luma.v s.quants.chroma.v s.mode)

-- its size, and what the writer refuses: what a reader would refuse, then room (13)
unfoldable pub size_of : Settings → ℕ
size_of s = same s.quants ⇒ 10 ∣ 15

unfoldable pub write_fault : Settings → ℕ → ℕ
write_fault s room = settings_fault s ⨟ (leb (size_of s) room ! 13 ⨾ 0)

-- settings that are written: ten values a set, and nothing to refuse
pub record GoodSettings (s : Settings) : Type 0 where
  pub luma : length s.quants.luma.v ≡ 10
  pub chroma : length s.quants.chroma.v ≡ 10
  pub fine : 0 ≡ settings_fault s
