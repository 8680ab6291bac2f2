-- `number` meets its contract. The loop keeps what is still to be read. Assumes nothing.
use Prim.Native.Nat.{◌+◌, ◌-◌, ◌≤◌, ◌<◌, ◌^◌}
use mathlib.Core.Bool.{false}
use mathlib.Core.Path.{◌≡◌, sym, ◌∙◌}
use native.Mathlib.Omega.{arith}
use native.Mathlib.Numerals.{add-one}
use lib.ListN.{get_or}
use lib.Pow.{pow_mono, pow_pos}
use Rattle.bits.specs.Bits.{bits_of}
use Rattle.bits.specs.laws.Bit.{grow, digit_lt}
use Rattle.plain_code.specs.Zeros.{num_in}
use Rattle.plain_code.specs.laws.Zeros.{num_on}
use Rattle.plain_code.proofs.number.Goals as goal

pub loop-i-init : goal.loop-i-init
loop-i-init c =
    let args = c.args in
    let z : args.from + 0 ≡ args.from = omega arith in
    let w : args.k - 0 ≡ args.k = omega arith in
    (omega arith, pow_pos 0, rw (z, w))

pub overflow_mul-n : goal.overflow_mul-n
overflow_mul-n c =
    let p : 2 ^ c.loop-i.i ≤ 2 ^ 32 = pow_mono {j = 32} (omega arith) in
    omega arith

pub overflow_add-from : goal.overflow_add-from
overflow_add-from c = omega arith

pub overflow_add-n : goal.overflow_add-n
overflow_add-n c =
    let loop = c.loop-i in
    let args = c.args in
    let p : 2 ^ loop.i ≤ 2 ^ 32 = pow_mono {j = 32} (omega arith) in
    let b : c.bit.result < 2 = digit_lt (get_or (bits_of args.s.now) (args.from + loop.i) false) c.bit.ensures in
    omega arith

pub overflow_step-i : goal.overflow_step-i
overflow_step-i c = omega arith

pub loop-i-smaller : goal.loop-i-smaller
loop-i-smaller c = omega arith

pub loop-i-preserved : goal.loop-i-preserved
loop-i-preserved c =
    let loop = c.loop-i in
    let args = c.args in
    let B = bits_of args.s.now in
    let b : c.bit.result < 2 = digit_lt (get_or B (args.from + loop.i) false) c.bit.ensures in (
      omega arith,
      rw (add-one loop.i) (grow loop.i loop.n c.bit.result loop.invariant.1 b),
      sym (num_on B args.from args.k loop.i loop.n c.bit.result c.loop-i-test.true c.bit.ensures) ∙ loop.invariant.2,
    )

pub returns : goal.returns
unfolding num_in
returns c =
    let args = c.args in
    let z : args.k - c.loop-i.i ≡ 0 = omega arith in
    rw z at c.loop-i.invariant.2
