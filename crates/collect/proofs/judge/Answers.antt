-- `collect::judge` meets its contract: a refused head is answered, a good one is written into the store and settled.
use mathlib.Core.Path.{refl}
use native.Mathlib.Omega.{arith}
use Rattle.collect.specs.laws.Made.{head_good}
use Rattle.collect.specs.laws.Code.{done_refused, done_good}
use Rattle.collect.proofs.judge.Goals as goal

pub returns-in-Err : goal.returns-in-Err
returns-in-Err c =
    let s = c.args in
    rw c.number-number.ensures (done_refused c.in-Err.refusal _ s.part s.held s.head s.n s.store.now c.in-Err.ensures)

pub put16_at-requires : goal.put16_at-requires
put16_at-requires c = let g = head_good _ _ _ c.in_default.ensures in omega (arith, g.least, g.fits)

pub put32_at-requires : goal.put32_at-requires
put32_at-requires c = let g = head_good _ _ _ c.in_default.ensures in omega (arith, g.least, g.fits)

pub returns : goal.returns
returns c =
    done_good 0 _ c.args.part c.args.held c.args.head c.args.n _ c.args.store.now _ _ _ c.in_default.ensures
    refl c.requires c.put16_at.ensures c.put32_at.ensures c.part_after.ensures (c.settle.ensures _)
