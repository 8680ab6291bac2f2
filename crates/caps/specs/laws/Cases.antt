-- 001's sample of a container (4.2.1), by its annotation, and that the premises of the laws are met by it.
-- Assumes nothing.
use Rattle.std.specs.Prelude.{◌≡◌, refl, [], ◌∷◌, Ok}
use Rattle.std.proofs.Common.{arith}
use Rattle.whole.specs.Row.{◌⇒◌∣◌}
use Rattle.wire.specs.Le.{bytes16, bytes32}
use Rattle.wire.specs.Mode.{is_mode}
use Rattle.caps.specs.Caps.{entry_of, two_entries, caps_with, entries_of, capset_of, block_of, caps_of, read_caps, two, GoodCaps}
use Rattle.caps.specs.laws.ReadBack.{caps_back}
use Rattle.caps.specs.declared.Caps.{Caps}

-- the flag CARDP_CAPS_CAPTURE_NON_CAC, and an entry for each mode
abbrev pub sample : Caps
sample = caps_with 1 (two_entries (record { flags = 0; mode = 1 }) (record { flags = 0; mode = 4 }))

pub sample_bytes : caps_of sample ≡
    0x31 ∷ 0x00 ∷ 0x00 ∷ 0x00 ∷ 0x01 ∷ 0x00 ∷ 0x00 ∷ 0x00 ∷ 0x25 ∷ 0x00 ∷ 0x00 ∷ 0x00
    ∷ 0xC0 ∷ 0xCB ∷ 0x08 ∷ 0x00 ∷ 0x00 ∷ 0x00 ∷ 0x01 ∷ 0x00
    ∷ 0xC1 ∷ 0xCB ∷ 0x1D ∷ 0x00 ∷ 0x00 ∷ 0x00 ∷ 0x01 ∷ 0xC0 ∷ 0xCF ∷ 0x02 ∷ 0x00 ∷ 0x08 ∷ 0x00
    ∷ 0x00 ∷ 0x01 ∷ 0x40 ∷ 0x00 ∷ 0x00 ∷ 0x01 ∷ 0x01 ∷ 0x01
    ∷ 0x00 ∷ 0x01 ∷ 0x40 ∷ 0x00 ∷ 0x00 ∷ 0x01 ∷ 0x01 ∷ 0x04 ∷ []
unfolding entry_of entries_of capset_of block_of caps_of bytes16 bytes32 ◌⇒◌∣◌
sample_bytes = refl

pub sample_good : GoodCaps sample
unfolding is_mode ◌⇒◌∣◌
sample_good = record {
  flags = omega arith;
  entries =
      two (record { flags = 0; mode = 1 }) (record { flags = 0; mode = 4 }) (record { flags = omega arith; mode = refl })
      (record { flags = omega arith; mode = refl });
}

pub sample_read : read_caps (caps_of sample) ≡ Ok sample
sample_read = caps_back sample sample_good
