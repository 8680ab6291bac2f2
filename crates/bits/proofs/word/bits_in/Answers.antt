-- `bits::word::bits_in` meets its contract: bits that lie in the word are a field of it (`in_got`). Assumes nothing.
use mathlib.Core.Path.{refl}
use Rattle.bits.specs.laws.Word.{in_got}
use Rattle.bits.proofs.word.bits_in.Goals as goal

pub returns : goal.returns
returns c = in_got c.args.w c.args.at c.args.k _ c.requires.0 refl
