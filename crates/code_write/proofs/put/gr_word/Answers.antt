-- Few ones, the zero and the low bits are one number (`gr_one`), which their count of bits holds (`ones_small`).
use native.Mathlib.Omega.{arith}
use lib.Pow.{pow_pos}
use Rattle.bits.specs.laws.Gr.{shift_one}
use Rattle.bits.specs.laws.Wide.{one_ones, one_shift, one_sum, gr_one}
use Rattle.code_write.specs.laws.Pen.{ones_small}
use Rattle.code_write.proofs.put.gr_word.Goals as goal

pub overflow_sub-result : goal.overflow_sub-result
overflow_sub-result c =
    let a = c.args in rw (one_ones a.k a.n a.v c.requires.0 c.requires.1 c.requires.2) (omega (arith, pow_pos a.v))

pub nonzero_rem-result : goal.nonzero_rem-result
nonzero_rem-result c = rw (shift_one c.args.k c.requires.2) (pow_pos c.args.k)

pub overflow_add-result-2 : goal.overflow_add-result-2
overflow_add-result-2 c =
    let a = c.args in
    let f = one_ones a.k a.n a.v c.requires.0 c.requires.1 c.requires.2 in
    let g = one_shift a.k a.n a.v c.requires.0 c.requires.1 c.requires.2 in
    record { fits = rw (f, g, shift_one a.k c.requires.2) (one_sum a.k a.n a.v c.requires.0 c.requires.1 c.requires.2) }

pub returns : goal.returns
returns c =
    let a = c.args in
    let f = one_ones a.k a.n a.v c.requires.0 c.requires.1 c.requires.2 in
    let g = one_shift a.k a.n a.v c.requires.0 c.requires.1 c.requires.2 in
    rw (f, g, shift_one a.k c.requires.2) (gr_one a.k a.n a.v c.requires.0 c.requires.1 c.requires.2, ones_small a.k a.n a.v)
