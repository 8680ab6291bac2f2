-- The five bytes at the place are the front of what is left there (`five`), and halved as `quant_of` halves them.
use mathlib.Core.Path.{sym, ap}
use Rattle.bands.specs.Bands.{quant_of}
use Rattle.bands.specs.laws.Band.{five}
use Rattle.bands.proofs.quant_at.Goals as goal

pub returns : goal.returns
unfolding quant_of
returns c =
    sym (ap quant_of (five c.args.m.now c.args.at c.requires))
