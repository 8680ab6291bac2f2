-- `row` meets its contract: a low row of LL and HL, or a high row of LH and HH. Assumes nothing.
use Prim.Native.Nat.{◌*◌}
use mathlib.Core.Path.{◌∙◌}
use native.Mathlib.Omega.{arith}
use mir.Syntax.{w32}
use Rattle.whole.specs.laws.Near.{back_ok}
use Rattle.whole.specs.laws.Tab.{row_in}
use Rattle.plain.specs.laws.Lines.{low_line, high_line, low_is, high_is}
use Rattle.plain.proofs.row.Goals as goal

pub overflow_mul-b : goal.overflow_mul-b
overflow_mul-b c = omega (arith, c.requires.0.fits)

pub overflow_mul-a : goal.overflow_mul-a
overflow_mul-a c = omega (arith, c.requires.0.fits, row_in c.args.r (2 * c.args.n) c.args.n c.requires.1)

pub overflow_add-a : goal.overflow_add-a
overflow_add-a c = omega (arith, c.requires.0.fits, row_in c.args.r (2 * c.args.n) c.args.n c.requires.1)

pub overflow_mul-b-then-r-n : goal.overflow_mul-b-then-r-n
overflow_mul-b-then-r-n c = omega (arith, c.requires.0.fits)

pub overflow_add-a-then-r-n : goal.overflow_add-a-then-r-n
overflow_add-a-then-r-n c =
    let args = c.args in
    omega (arith, c.requires.0.fits, row_in args.r (2 * args.n) args.n c.requires.1)

pub line-requires : goal.line-requires
line-requires c =
    let a = c.args in (low_line a.src.now a.from a.n c.requires.0 a.r c.if-r-n.true, c.requires.2)

pub returns-then-r-n : goal.returns-then-r-n
returns-then-r-n c =
    let pre = c.requires in
    let a = c.args in
    back_ok w32 c.line.result c.line.type_inv ∙ c.line.ensures ∙ low_is a.src.now a.from a.n pre.0 a.r a.x
    c.if-r-n.true pre.2

pub overflow_add-a-2 : goal.overflow_add-a-2
overflow_add-a-2 c =
    let args = c.args in
    omega (arith, c.requires.0.fits, row_in args.r (2 * args.n) args.n c.requires.1)

pub line-requires-2 : goal.line-requires-2
line-requires-2 c =
    let pre = c.requires in
    let a = c.args in (high_line a.src.now a.from a.n pre.0 a.r c.if-r-n.false pre.1, pre.2)

pub returns : goal.returns
returns c =
    let pre = c.requires in
    let a = c.args in
    back_ok w32 c.line-2.result c.line-2.type_inv ∙ c.line-2.ensures ∙ high_is a.src.now a.from a.n pre.0 a.r a.x
    c.if-r-n.false pre.2
