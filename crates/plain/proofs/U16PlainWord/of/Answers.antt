-- `u16::of` meets its contract: the code is the definition, and every step fits 16 bits. Assumes nothing.
use Rattle.colour.specs.Colour.{pack565}
use Rattle.colour.specs.laws.Colour.{pack_16}
use Rattle.plain.proofs.U16PlainWord.of.Goals as goal

pub returns : goal.returns
unfolding pack565
returns c = pack_16 c.args.r c.args.g c.args.b
