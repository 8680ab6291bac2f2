-- Small cases of the collector, computed by the definitions.
-- Assumes nothing.
use Rattle.std.specs.Prelude.{refl}
use Rattle.wire.specs.Le.{patch}
use Rattle.whole.specs.Row.{◌!◌⨾◌, ◌⇒◌∣◌, ◌⨟◌}
use Rattle.collect.specs.Collect.{joined, head_bytes, head_fault, part_after, settled, head_done, head_byte, byte, between, refusal_of, made_waiting, may_end}
use Rattle.collect.specs.Collect.{made_gathering, collector_made, collector_fault, walk, collect_of}
use Rattle.collect.specs.Cases.{Cases}

pub cases : Cases
unfolding patch ◌!◌⨾◌ ◌⇒◌∣◌ ◌⨟◌ joined head_bytes head_fault part_after settled head_done head_byte byte between refusal_of made_waiting may_end made_gathering
    collector_made collector_fault walk collect_of
cases = record {
  alone = refl;
  stops = refl;
  begin = refl;
  frame = refl;
  waits = refl;
  kind = refl;
  below = refl;
  size = refl;
  full = refl;
  earlier = refl;
  kept = refl;
  unmade = refl;
  short = refl;
}
