-- Every place has a good quantiser (`quant_low`, `quant_high`), and what is promised of each value makes the list.
use Rattle.std.proofs.Common.{◌∙◌}
use Rattle.whole.specs.Tab.{at}
use Rattle.whole.specs.laws.Tab.{is_tab}
use Rattle.bands.specs.Bands.{scale_at, scaled_by}
use Rattle.bands.specs.laws.Band.{quant_low, quant_high}
use Rattle.bands.proofs.scale_up.Goals as goal

pub each_band-requires-clause-can : goal.each_band-requires-clause-can
each_band-requires-clause-can c = λ k h. (quant_low c.args.q.v k c.requires.2, quant_high c.args.q.v k c.requires.2, c.requires.1.all k)

pub returns : goal.returns
unfolding scaled_by
returns c = is_tab 4096 (scale_at c.args.q.v (at c.args.work.now)) _ (c.each_band.auto.work ∙ c.requires.0) (λ k h. c.each_band.ensures k h)
