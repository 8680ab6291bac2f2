-- The first block with a fault decides (`handed_first`, `goes_on`); a block without one says that the next can be read (`begin_good`, `region_good`).
use mathlib.Core.Path.{sym, ◌∙◌}
use native.Mathlib.Omega.{arith}
use Rattle.whole.specs.laws.Row.{goes_on}
use Rattle.frame_layout.specs.Reader.{size_at, set_place}
use Rattle.frame_blocks.specs.laws.Blocks.{handed_first, begin_good, region_good}
use Rattle.frame.specs.Frame.{front_fault}
use Rattle.frame.proofs.call.front_fault.Goals as goal

pub returns-in_err-begin_fault : goal.returns-in_err-begin_fault
unfolding front_fault set_place size_at
returns-in_err-begin_fault c = handed_first _ _ _ _ c.from_residual.ensures.1 c.in_err-begin_fault.ensures

pub region_fault-requires : goal.region_fault-requires
region_fault-requires c = begin_good c.args.m.now c.in_ok-begin_fault.ensures

pub returns-in_err-region_fault : goal.returns-in_err-region_fault
unfolding front_fault set_place size_at
returns-in_err-region_fault c =
    goes_on _ _ _ (sym c.in_ok-begin_fault.ensures) (handed_first _ _ _ _ c.from_residual-in_err-region_fault.ensures.1 c.in_err-region_fault.ensures)

pub le32_at-size-requires : goal.le32_at-size-requires
unfolding size_at
le32_at-size-requires c =
    let b = begin_good c.args.m.now c.in_ok-begin_fault.ensures in
    let g = region_good c.args.m.now 14 b c.in_ok-region_fault.ensures in omega (arith, g.there, g.size)

pub set_front-requires : goal.set_front-requires
unfolding size_at
set_front-requires c =
    let b = begin_good c.args.m.now c.in_ok-begin_fault.ensures in
    let g = region_good c.args.m.now 14 b c.in_ok-region_fault.ensures in
    omega (arith, g.there, c.le32_at-size.ensures.0)

pub returns : goal.returns
unfolding front_fault set_place size_at
returns c =
    goes_on _ _ _ (sym c.in_ok-begin_fault.ensures)
    (goes_on _ _ _ (sym c.in_ok-region_fault.ensures) (c.set_front.ensures ∙ rw c.le32_at-size.ensures.0))
