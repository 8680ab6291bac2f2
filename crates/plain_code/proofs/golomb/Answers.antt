-- `golomb` meets its contract: the number is small enough to shift. Assumes nothing.
use native.Mathlib.Omega.{arith}
use Rattle.plain_code.specs.Zeros.{gr_in}
use Rattle.plain_code.specs.laws.Zeros.{ones_few, gr_fits}
use Rattle.plain_code.proofs.golomb.Goals as goal

pub overflow_add-from : goal.overflow_add-from
overflow_add-from c =
    let args = c.args in
    let pre = c.requires in
    omega (arith, c.ones-v.ensures, ones_few args.s.now args.from pre.0)

pub overflow_add-from-2 : goal.overflow_add-from-2
overflow_add-from-2 c =
    let args = c.args in
    let pre = c.requires in
    omega (arith, c.ones-v.ensures, ones_few args.s.now args.from pre.0)

pub number-requires : goal.number-requires
number-requires c =
    let args = c.args in
    let pre = c.requires in
    (omega (arith, c.ones-v.ensures, ones_few args.s.now args.from pre.0), omega arith)

pub overflow_add-result : goal.overflow_add-result
unfolding gr_in
overflow_add-result c =
    let args = c.args in
    let pre = c.requires in
    let f = gr_fits args.k args.from args.s.now pre.2 pre.0 in
    rw (c.number.ensures, c.ones-v.ensures, f.0) (omega (arith, f.1))

-- both parts, and that they fit
pub returns : goal.returns
unfolding gr_in
returns c =
    let args = c.args in
    let pre = c.requires in
    let f = gr_fits args.k args.from args.s.now pre.2 pre.0 in
    rw (c.number.ensures, c.ones-v.ensures, f.0)
