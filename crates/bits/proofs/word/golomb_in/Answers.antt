-- `bits::word::golomb_in` meets its contract: a GR number that does not lie in the word is cut (`in_gr_cut`), else its ones and its low bits make it, and
-- nothing is lost (`in_gr`). Assumes nothing.
use native.Mathlib.Omega.{arith}
use Rattle.bits.specs.laws.Word.{in_few, in_gr_cut, in_gr_fits, in_gr}
use Rattle.bits.proofs.word.golomb_in.Goals as goal

pub overflow_add-used : goal.overflow_add-used
overflow_add-used c = omega (arith, in_few c.args.w c.args.at c.requires.0 _ c.ones_at-v.ensures)

pub overflow_add-used-2 : goal.overflow_add-used-2
overflow_add-used-2 c = omega (arith, in_few c.args.w c.args.at c.requires.0 _ c.ones_at-v.ensures)

pub returns-then-at-used : goal.returns-then-at-used
returns-then-at-used c =
    in_gr_cut c.args.w c.args.at c.requires.0 _ c.ones_at-v.ensures c.args.k c.if-at-used.true

pub overflow_add-result : goal.overflow_add-result
overflow_add-result c =
    let z = in_gr_fits c.args.w c.args.at c.requires.0 _ c.ones_at-v.ensures c.args.k _ c.requires.1 (omega arith) c.bits_in-b.ensures in
    omega (arith, z.0, z.1)

pub returns : goal.returns
returns c =
    in_gr c.args.w c.args.at c.requires.0 _ c.ones_at-v.ensures c.args.k _ c.requires.1 (omega arith) c.bits_in-b.ensures
