-- Cases of 01 on the header call, and of 02's requests Six and Thirteen on its record, computed by the definitions.
-- (01 is this project's scope document, 02 its change requests, 001 is MS-RDPRFX: README, "What 01 is".)
use Rattle.std.specs.Prelude.{refl}
use Rattle.wire.specs.Le.{le16, le32}
use Rattle.wire.specs.Mode.{is_mode}
use Rattle.whole.specs.Row.{◌!◌⨾◌, ◌⇒◌∣◌, ◌⨟◌}
use Rattle.session.specs.Header.{tiles_over, right, size_good, counted, made, ready, due, size_of, sync_judge, versions_judge, channels_judge}
use Rattle.session.specs.Header.{properties_good, context_judge, et_of, sync_fault, versions_fault, channels_fault, context_fault, field_fault, head_judge}
use Rattle.wire.specs.Refusal.{refusal_of}
use Rattle.session.specs.Header.{header_fault, kept_glass, record_after, header_reading}
use Rattle.session.specs.Cases.{Cases}

pub cases : Cases
unfolding le16 le32 ◌!◌⨾◌ ◌⇒◌∣◌ ◌⨟◌ tiles_over right size_good is_mode counted made ready due size_of sync_judge versions_judge channels_judge properties_good
    context_judge et_of sync_fault versions_fault channels_fault context_fault field_fault head_judge
    header_fault kept_glass record_after header_reading refusal_of
cases = record {
  sync_taken = refl;
  versions_taken = refl;
  channels_taken = refl;
  rlgr3_taken = refl;
  rlgr1_taken = refl;
  wide_taken = refl;
  wide_refused = refl;
  sync_again = refl;
  sync_unmade = refl;
  sync_kept = refl;
  glass_versions = refl;
  glass_channels = refl;
  glass_context = refl;
  glass_unmade = refl;
  glass_sync = refl;
  early = refl;
  unmade = refl;
  right_taken = refl;
  columns_off = refl;
  rows_off = refl;
  words_off = refl;
  off_sync = refl;
  more = refl;
  cut = refl;
  is-ready = refl;
  glass_ready = refl;
  glass_not = refl;
}
