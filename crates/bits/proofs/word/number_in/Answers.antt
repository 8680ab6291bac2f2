-- `bits::word::number_in` meets its contract: a number that does not lie in the word is cut (`in_cut`). Assumes nothing.
use Rattle.bits.specs.laws.Word.{in_cut}
use Rattle.bits.proofs.word.number_in.Goals as goal

pub returns-then-at-k : goal.returns-then-at-k
returns-then-at-k c = let a = c.args in in_cut a.w a.at a.k c.if-at-k.true
