-- `u32::of` meets its contract: the code is the definition, and every step fits 32 bits. Assumes nothing.
use Rattle.colour.specs.Colour.{pack888}
use Rattle.colour.specs.laws.Colour.{pack-32}
use Rattle.plain.proofs.U32PlainWord.of.Goals as goal

pub returns : goal.returns
unfolding pack888
returns c = pack-32 c.args.r c.args.g c.args.b
