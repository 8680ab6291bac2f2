-- `ones` meets its contract. The loop keeps what is still to be counted. Assumes nothing.
use Prim.Native.Nat.{◌+◌}
use mathlib.Core.Path.{◌≡◌}
use native.Mathlib.Omega.{arith}
use Rattle.bits.specs.Bits.{bits_of}
use Rattle.plain_code.specs.laws.Zeros.{ones_few, ones_on, ones_end}
use Rattle.plain_code.proofs.ones.Goals as goal

pub loop-v-init : goal.loop-v-init
loop-v-init c =
    let z : c.args.from + 0 ≡ c.args.from = omega arith in
    rw z (omega arith)

pub overflow_add-from : goal.overflow_add-from
overflow_add-from c =
    let args = c.args in
    let pre = c.requires in
    omega (arith, c.loop-v.invariant, ones_few args.s.now args.from pre.0)

pub overflow_add-v : goal.overflow_add-v
overflow_add-v c =
    let loop = c.loop-v in
    let args = c.args in
    let pre = c.requires in
    omega (arith, loop.invariant, ones_few args.s.now args.from pre.0)

pub loop-v-smaller : goal.loop-v-smaller
loop-v-smaller c =
    let loop = c.loop-v in
    let args = c.args in
    let e : args.from + loop.v + 1 ≡ args.from + (loop.v + 1) = omega arith in
    let o = ones_on (bits_of args.s.now) (args.from + loop.v) _ c.bit.ensures c.loop-v-test.true in
    rw (← e) (omega (arith, o))

pub loop-v-preserved : goal.loop-v-preserved
loop-v-preserved c =
    let loop = c.loop-v in
    let args = c.args in
    let e : args.from + loop.v + 1 ≡ args.from + (loop.v + 1) = omega arith in
    let o = ones_on (bits_of args.s.now) (args.from + loop.v) _ c.bit.ensures c.loop-v-test.true in
    rw (← e) (omega (arith, o, loop.invariant))

pub returns : goal.returns
returns c =
    let loop = c.loop-v in
    let args = c.args in
    omega (arith, loop.invariant, ones_end (bits_of args.s.now) (args.from + loop.v) _ c.bit.ensures c.loop-v-test.false)
