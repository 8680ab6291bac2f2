-- What a settings file gives the programs.
use Rattle.std.specs.Prelude.{ℕ, Bool, true, false, Option, Some, None, List, []}
use Rattle.whole.specs.Row.{◌⇒◌∣◌}
use Rattle.app_text.specs.First.{first_of}
use Rattle.settings.specs.Settings.{Reading, read_settings}

-- what a reader of version 2 says of a file's bytes. A file that was not read whole gives no settings: "The last record of kind 1 or 2 counts" (02), and the
-- last
-- one may stand in what was not read
unfoldable pub settings_in : Bool → List ℕ → Reading
settings_in whole bytes = whole ⇒ read_settings 2 bytes ∣ read_settings 2 []

-- the same of a buffer: its first bytes are the file, if it was read whole
abbrev pub settings_read : Option ℕ → List ℕ → Reading
settings_read (Some n) bytes = settings_in true (first_of bytes n)
settings_read None bytes = settings_in false bytes
