-- Every place has a good quantiser (`quant_low`, `quant_high`), and what is promised of each value makes the list.
use Rattle.std.proofs.Common.{◌∙◌}
use Rattle.whole.specs.Tab.{at}
use Rattle.whole.specs.laws.Tab.{is_tab}
use Rattle.bands.specs.Rounding.{round_at}
use Rattle.bands.specs.laws.Band.{quant_low, quant_high}
use Rattle.bands.proofs.round_bands.Goals as goal

pub each_band-requires-clause-can : goal.each_band-requires-clause-can
each_band-requires-clause-can c = λ k h. (quant_low c.args.q.v k c.requires.2, quant_high c.args.q.v k c.requires.2, c.requires.1.all k)

pub returns : goal.returns
returns c = is_tab 4096 (round_at c.args.q.v (at c.args.work.now)) _ (c.each_band.auto.work ∙ c.requires.0) (λ k h. c.each_band.ensures k h)
