-- `collect::head_at` meets its contract: the head with the byte more waits on, or is complete and judged.
use mathlib.Core.Path.{refl}
use native.Mathlib.Omega.{arith}
use Rattle.collect.specs.Collect.{state}
use Rattle.collect.specs.laws.Made.{Waits, opened, waits}
use Rattle.collect.specs.laws.Code.{weighed, joined_is, head_waits, head_judged, byte_turned}
use Rattle.collect.proofs.head_at.Goals as goal
use Rattle.collect.proofs.head_at.Goals.{Start}

waits_here : (s : Start) → Waits s.args.c
waits_here s = let o = opened _ _ s.requires.0 in waits s.args.c o.good s.requires.1.1 o.free

pub weight-requires : goal.weight-requires
weight-requires c = omega (arith, (waits_here (goal.at.weight-requires c).Start).few)

pub overflow_mul-head : goal.overflow_mul-head
overflow_mul-head c = omega (arith, weighed _ _ c.weight.ensures.1 c.byte_at.ensures.1)

pub overflow_add-head : goal.overflow_add-head
overflow_add-head c =
    let h = waits_here (goal.at.overflow_add-head c).Start in
    let w = c.weight.ensures in
    omega (arith, h.small, w.0, w.1, weighed _ _ w.1 c.byte_at.ensures.1)

pub returns-then-c-lt5 : goal.returns-then-c-lt5
returns-then-c-lt5 c =
    let k = c.args.c in
    let w = c.weight in
    let v = c.byte_at in
    let t = state k c.args.store.now in
    byte_turned t c.args.bytes.now c.args.at v.result _ c.requires.0 c.requires.1.0 v.ensures.0 v.ensures.1
    (head_waits t v.result _ _ c.requires.1.1 (omega arith)
    (joined_is k.head k.seen v.result w.result v.result w.ensures.0 refl))

pub judge-requires : goal.judge-requires
judge-requires c = (opened _ _ c.requires.0).fits

pub returns : goal.returns
returns c =
    let k = c.args.c in
    let w = c.weight in
    let v = c.byte_at in
    let t = state k c.args.store.now in
    byte_turned t c.args.bytes.now c.args.at v.result _ c.requires.0 c.requires.1.0 v.ensures.0 v.ensures.1
    (head_judged t v.result _ _ _ c.requires.1.1 (omega arith)
    (joined_is k.head k.seen v.result w.result v.result w.ensures.0 refl) c.judge.ensures)
