-- Document 01, "Cases on both sides": those of the bands, proved of the definitions.
-- Assumes nothing.
-- (01 is this project's scope document, 02 its change requests, 001 is MS-RDPRFX: README, "What 01 is".)
use Rattle.std.specs.Prelude.{refl}
use Rattle.whole.specs.Row.{◌⇒◌∣◌}
use Rattle.bands.specs.Bands.{quant_of, bands, first_band, band_at, scale_at}
use Rattle.bands.specs.Cases.{BandCases}

pub band_cases : BandCases
unfolding quant_of bands first_band band_at scale_at ◌⇒◌∣◌
band_cases = record { set = refl; below = refl; half = refl; minus_half = refl; minus_more = refl; factors = refl }
