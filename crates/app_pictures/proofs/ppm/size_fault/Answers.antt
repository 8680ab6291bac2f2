-- Each return is one row of `size_fault`.
use Rattle.std.proofs.Common.{refl, arith, le-leb}
use borrow.Author.Tests.{lt-leb}
use Rattle.whole.specs.laws.Row.{rows, passes, fails}
use Rattle.app_pictures.specs.Ppm.{size_fault}
use Rattle.app_pictures.specs.laws.Ppm.{size_bound}
use Rattle.app_pictures.proofs.ppm.size_fault.Goals as goal

pub returns-then-width-lt1 : goal.returns-then-width-lt1
unfolding size_fault
returns-then-width-lt1 c = search rows

pub returns-then-width-gt4096 : goal.returns-then-width-gt4096
unfolding size_fault
returns-then-width-gt4096 c = search rows

pub returns-then-height-lt1 : goal.returns-then-height-lt1
unfolding size_fault
returns-then-height-lt1 c = search rows

pub returns-then-height-gt2048 : goal.returns-then-height-gt2048
unfolding size_fault
returns-then-height-gt2048 c = search rows

pub overflow_mul-width : goal.overflow_mul-width
overflow_mul-width c =
    let b = size_bound c.args.width c.args.height (omega arith) (omega arith) in
    omega arith

pub returns-then-width-height-gt1048576 : goal.returns-then-width-height-gt1048576
unfolding size_fault
returns-then-width-height-gt1048576 c =
    passes _ _ _ _ (le-leb _ _ c.if-width-lt1.false)
    (passes _ _ _ _ (le-leb _ _ c.if-width-gt4096.false) (passes _ _ _ _ (le-leb _ _ c.if-height-lt1.false) (passes _ _ _ _
    (le-leb _ _ c.if-height-gt2048.false) (fails _ _ _ _ (lt-leb _ _ c.if-width-height-gt1048576.true) refl))))

pub returns : goal.returns
unfolding size_fault
returns c =
    passes _ _ _ _ (le-leb _ _ c.if-width-lt1.false)
    (passes _ _ _ _ (le-leb _ _ c.if-width-gt4096.false) (passes _ _ _ _ (le-leb _ _ c.if-height-lt1.false) (passes _ _ _ _
    (le-leb _ _ c.if-height-gt2048.false) (passes _ _ _ _ (le-leb _ _ c.if-width-height-gt1048576.false) refl))))
