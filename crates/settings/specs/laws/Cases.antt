-- The cases hold, by computing.
-- Assumes nothing.
use Rattle.std.specs.Prelude.{refl}
use Rattle.whole.specs.Row.{◌!◌⨾◌, ◌⇒◌∣◌, ◌⨟◌}
use Rattle.wire.specs.Le.{le16, bytes16}
use Rattle.wire.specs.Mode.{is_mode}
use Rattle.bands.specs.Bands.{quant_of, good_to}
use Rattle.quants.specs.Quants.{quant_bytes, alike, same}
use Rattle.settings.specs.Settings.{body_of, known, placed, front_fault, takes, settings_in, settings_fault, bytes_fault, record_fault, after, last_or, ended}
use Rattle.settings.specs.Settings.{unless, walk, read_settings, version_record, one_record, two_record, settings_of, size_of, write_fault}
use Rattle.settings.specs.Cases.{Cases}

pub cases : Cases
unfolding ◌!◌⨾◌ ◌⇒◌∣◌ ◌⨟◌ le16 bytes16 is_mode quant_of good_to quant_bytes alike same body_of known placed front_fault takes settings_in settings_fault
    bytes_fault
    record_fault after last_or ended unless walk read_settings version_record one_record two_record settings_of size_of write_fault
cases = record {
  first = refl;
  second = refl;
  guess = refl;
  low_first = refl;
  none_known = refl;
  newer = refl;
  short = refl;
  kind_first = refl;
  place_first = refl;
  presence_first = refl;
  missing = refl;
  foreign = refl;
  bad_chroma = refl;
  bad_mode = refl;
  last = refl;
  replaced = refl;
  equal_two = refl;
  equal_written = refl;
  else_written = refl;
  room = refl;
  fits = refl;
  more_room = refl;
  set_first = refl;
  mode_first = refl;
}
