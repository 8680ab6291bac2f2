-- Invariant: the bands passed end at or before k, so the band of k is the first of those left that ends behind it.
use Rattle.std.proofs.Common.{◌≡◌, drop}
use Rattle.bands.specs.Bands.{bands, first_band, band_at}
use Rattle.bands.proofs.band_at.Given as goal

abbrev pub invariant-loop-b : goal.invariant-loop-b
invariant-loop-b l = band_at l.k ≡ first_band (drop l.b-index bands) l.k
