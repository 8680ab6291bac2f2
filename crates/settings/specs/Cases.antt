-- Telling cases of the reader and the writer, computed by the definitions.
-- (01 is this project's scope document, 02 its change requests, 001 is MS-RDPRFX: README, "What 01 is".)
use Rattle.std.specs.Prelude.{ℕ, ◌≡◌, List, [], ◌∷◌, ◌++◌}
use Rattle.settings.specs.Settings.{settings, Kept, Refused, read_settings, settings_of, write_fault}

-- two sets of five bytes, and their ten values
abbrev Q : List ℕ
Q = 0x66 ∷ 0x66 ∷ 0x77 ∷ 0x88 ∷ 0x98 ∷ []

abbrev C : List ℕ
C = 0x77 ∷ 0x77 ∷ 0x88 ∷ 0x99 ∷ 0xA9 ∷ []

abbrev q : List ℕ
q = 6 ∷ 6 ∷ 6 ∷ 6 ∷ 7 ∷ 7 ∷ 8 ∷ 8 ∷ 8 ∷ 9 ∷ []

abbrev c : List ℕ
c = 7 ∷ 7 ∷ 7 ∷ 7 ∷ 8 ∷ 8 ∷ 9 ∷ 9 ∷ 9 ∷ 10 ∷ []

abbrev version : ℕ → List ℕ
version v = 0 ∷ v ∷ 0 ∷ []

abbrev one : List ℕ → ℕ → List ℕ
one five mode = 1 ∷ (five ++ (mode ∷ []))

abbrev two : List ℕ → List ℕ → ℕ → List ℕ
two five more mode = 2 ∷ (five ++ (more ++ (mode ∷ [])))

pub record Cases : Type 0 where
  -- both readers take version 1; one of version 1 never guesses
  pub first : read_settings 1 (version 1 ++ one Q 4) ≡ Kept (settings q q 4)
  pub second : read_settings 2 (version 2 ++ two Q C 1) ≡ Kept (settings q c 1)
  pub guess : read_settings 1 (version 2 ++ two Q C 1) ≡ Refused 14
  -- low byte first: 0 1 is version 256
  pub low_first : read_settings 2 (0 ∷ 0 ∷ 1 ∷ one Q 4) ≡ Refused 14
  -- a reader that knows no version refuses all, one that knows more than 2 is as 2
  pub none_known : read_settings 0 (version 1 ++ one Q 4) ≡ Refused 14
  pub newer : read_settings 3 (version 3 ++ one Q 4) ≡ Refused 14
  -- short, not 15; kind before presence, place before presence, presence before bytes
  pub short : read_settings 2 (version 1 ++ (1 ∷ [])) ≡ Refused 1
  pub kind_first : read_settings 2 (version 1 ++ (2 ∷ [])) ≡ Refused 3
  pub place_first : read_settings 2 (version 1 ++ (0 ∷ [])) ≡ Refused 12
  pub presence_first : read_settings 2 (version 1 ++ (1 ∷ 0 ∷ 0 ∷ 0 ∷ 0 ∷ 0 ∷ [])) ≡ Refused 1
  -- kind 2 is known until a version is read, and missing is said before its bytes are looked for
  pub missing : read_settings 1 (2 ∷ []) ≡ Refused 12
  pub foreign : read_settings 1 (3 ∷ []) ≡ Refused 3
  -- chroma stands before the mode
  pub bad_chroma : read_settings 2 (version 2 ++ two Q (0x77 ∷ 0x77 ∷ 0x88 ∷ 0x99 ∷ 0x09 ∷ []) 5) ≡ Refused 7
  pub bad_mode : read_settings 2 (version 2 ++ two Q C 5) ≡ Refused 5
  -- the last counts, of either kind; a replaced record is judged too
  pub last : read_settings 2 (version 2 ++ (two Q C 4 ++ one C 1)) ≡ Kept (settings c c 1)
  pub replaced : read_settings 2 (version 1 ++ (one (0x65 ∷ 0x66 ∷ 0x77 ∷ 0x88 ∷ 0x98 ∷ []) 4 ++ one Q 4)) ≡ Refused 7
  -- equal sets in kind 2 are read, never written
  pub equal_two : read_settings 2 (version 2 ++ two Q Q 1) ≡ Kept (settings q q 1)
  pub equal_written : settings_of (settings q q 1) ≡ version 1 ++ one Q 1
  pub else_written : settings_of (settings q c 4) ≡ version 2 ++ two Q C 4
  -- quantisers, then the mode, then room
  pub room : write_fault (settings q q 1) 9 ≡ 13
  pub fits : write_fault (settings q q 1) 10 ≡ 0
  pub more_room : write_fault (settings q c 1) 14 ≡ 13
  pub set_first : write_fault (settings q [] 2) 0 ≡ 7
  pub mode_first : write_fault (settings q q 2) 0 ≡ 5
