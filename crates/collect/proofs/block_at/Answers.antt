-- `collect::block_at` meets its contract: as many bytes as are there and belong to the block are copied and settled.
use native.Mathlib.Omega.{arith}
use lib.ListN.{length}
use Rattle.collect.specs.Collect.{state}
use Rattle.collect.specs.laws.Made.{Open, Gathers, opened, gathers}
use Rattle.collect.specs.laws.Code.{block_turned}
use Rattle.collect.proofs.block_at.Goals as goal
use Rattle.collect.proofs.block_at.Goals.{Start}

open_here : (s : Start) → Open s.args.c (length s.args.store.now)
open_here s = opened _ _ s.requires.0

block_here : (s : Start) → Gathers s.args.c
block_here s = gathers s.args.c (open_here s).good s.requires.1.1

pub overflow_sub-c : goal.overflow_sub-c
overflow_sub-c c = omega (arith, (block_here (goal.at.overflow_sub-c c).Start).less)

pub copy-requires : goal.copy-requires
copy-requires c =
    let g = block_here (goal.at.copy-requires c).Start in
    (omega (arith, c.min-n.ensures, g.less, (open_here (goal.at.copy-requires c).Start).ends), omega (arith, c.min-n.ensures))

pub returns : goal.returns
returns c =
    let n = c.min-n in
    let e = c.min-n.ensures in
    let g = block_here (goal.at.returns c).Start in
    block_turned (state c.args.c c.args.store.now) c.args.bytes.now _ c.args.at n.result _ c.requires.0 c.requires.1.1
    (omega (arith, e, g.less)) (omega (arith, e)) (omega (arith, e)) c.copy.ensures (c.settle.ensures _)
