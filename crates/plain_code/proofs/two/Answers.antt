-- `two` meets its contract: read with zeros past the end and judged once (`two_is`). Assumes nothing.
use Prim.Native.Nat.{◌*◌, ◌/◌, ◌^◌, ◌≤◌}
use mathlib.Core.Path.{◌≡◌, refl, ◌∙◌}
use native.Mathlib.Omega.{arith}
use lib.ListN.{length}
use Rattle.bits.specs.Bits.{bits_of}
use Rattle.bits.specs.laws.Bit.{length_bits_of}
use Rattle.code.specs.Code.{size}
use Rattle.code.specs.laws.Steps.{size_fit}
use Rattle.plain_code.specs.laws.Zeros.{gr_fits, gr_near, two_is}
use Rattle.plain_code.proofs.two.Goals as goal

pub past-mid-requires : goal.past-mid-requires
past-mid-requires c =
    let args = c.args in
    let pre = c.requires in
    (omega arith, omega arith, rw c.golomb-g.ensures (gr_fits (args.c.krp / 8) args.c.at args.s.now (omega arith) pre.0).1)

pub overflow_add-next : goal.overflow_add-next
overflow_add-next c =
    let golomb = c.golomb-g in
    let pre = c.requires in
    let a = c.args in
    let k = a.c.krp / 8 in
    let near : golomb.result / 2 ^ k ≤ 524280 = rw golomb.ensures (gr_near k a.c.at a.s.now pre.0) in
    let few : size golomb.result ≤ 31 = size_fit _ 31 (rw golomb.ensures (gr_fits k a.c.at a.s.now (omega arith) pre.0).1) in
    omega (arith, near, few, c.past-mid.ensures, c.bit_size.ensures)

pub number-a-requires : goal.number-a-requires
number-a-requires c =
    let golomb = c.golomb-g in
    let pre = c.requires in
    let a = c.args in
    let k = a.c.krp / 8 in
    let near : golomb.result / 2 ^ k ≤ 524280 = rw golomb.ensures (gr_near k a.c.at a.s.now pre.0) in
    let few : size golomb.result ≤ 31 = size_fit _ 31 (rw golomb.ensures (gr_fits k a.c.at a.s.now (omega arith) pre.0).1) in
    (omega (arith, near, c.past-mid.ensures), omega (arith, few, c.bit_size.ensures))

pub returns : goal.returns
returns c =
    let wide = c.wide in
    let state = c.state-t in
    let kr-after = c.kr_after in
    let kp-two = c.kp_two in
    let less = c.less-b in
    let number = c.number-a in
    let bit-size = c.bit_size in
    let past = c.past-mid in
    let golomb = c.golomb-g in
    let a = c.args in
    let s = c.args.s.now in
    let len : length s * 8 ≡ length (bits_of s) = omega (arith, length_bits_of s) in
    c.judged.ensures ∙ two_is a.c.kp a.c.krp (length s * 8) (bits_of s) len a.left a.c.at golomb.result past.result bit-size.result
    number.result less.result _ _ _ _ _ _ golomb.ensures past.ensures bit-size.ensures refl number.ensures less.ensures
    kp-two.ensures kr-after.ensures state.ensures wide.ensures c.lone.ensures
