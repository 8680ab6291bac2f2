-- Each turn keeps it, and at the end it is what is promised.
use Prim.Native.Nat.{◌+◌, ◌-◌, ◌/◌}
use mathlib.Core.Path.{◌≡◌}
use native.Mathlib.Omega.{arith}
use borrow.Author.Rules.{rules}
use Rattle.bits.specs.laws.Gr.{shift_one}
use Rattle.code.specs.laws.Quick.{leap_again, leap_done}
use Rattle.code.proofs.read.full_runs.Goals as goal
use Rattle.code.proofs.read.full_runs.Goals.{else-loop-k-test, then-loop-k-test+else-j-n}

pub loop-k-init : goal.loop-k-init
loop-k-init c =
    let e : c.args.m - 0 ≡ c.args.m = omega arith in
    let f : c.args.c.at + 0 ≡ c.args.c.at = omega arith in
    record { count = omega arith; room = c.requires.1; kps = c.requires.2; same = rw (e, f) }

pub overflow_shl-kp : goal.overflow_shl-kp
overflow_shl-kp c = search (rules, c.loop-k.invariant.kps)

pub clipped-j-requires : goal.clipped-j-requires
clipped-j-requires c = c.loop-k.invariant.room

pub more-kp-requires : goal.more-kp-requires
more-kp-requires c = (c.loop-k.invariant.kps, omega arith)

pub overflow_add-k : goal.overflow_add-k
overflow_add-k c =
    record { fits = omega (arith, c.loop-k-test.true, c.requires.4) }

pub loop-k-smaller : goal.loop-k-smaller
loop-k-smaller c = omega (arith, c.loop-k-test.true)

pub loop-k-preserved : goal.loop-k-preserved
loop-k-preserved c =
    let l = c.loop-k in
    let a = c.args in
    let z = shift_one (l.kp / 8) (omega (arith, l.invariant.kps)) in
    leap_again a.n a.i a.m a.c.at a.c.krp a.c.kp l.kp l.j l.k l.invariant _ _ _
    c.loop-k-test.true c.if-j-n.true z c.clipped-j.ensures c.more-kp.ensures

pub overflow_add-result : goal.overflow_add-result
overflow_add-result c = record { fits = omega (arith, c.loop-k.invariant.count, c.requires.3, c.requires.4) }

pub returns : goal.returns
returns c =
    let l = c.loop-k in
    let a = c.args in
    leap_done a.n a.i a.m a.c.at a.c.krp a.c.kp l.kp l.j l.k l.invariant
    (λ k. elim c.loop-k-test.branch [ else-loop-k-test w ↦ omega arith | then-loop-k-test+else-j-n w ↦ omega arith ])
