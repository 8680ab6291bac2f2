-- `run` meets its contract: read with zeros past the end and judged once, a full run (`zeros_is`) or a run's value (`run_is`). Assumes nothing.
use Prim.Native.Nat.{◌+◌, ◌*◌, ◌/◌, ◌^◌, ◌<◌}
use mathlib.Core.Bool.{false}
use mathlib.Core.Path.{◌≡◌, ◌∙◌}
use native.Mathlib.Omega.{arith}
use lib.ListN.{length, get_or}
use Rattle.bits.specs.Bits.{bits_of}
use Rattle.bits.specs.laws.Bit.{length_bits_of, digit_lt}
use Rattle.bits.specs.laws.Gr.{shift_one}
use Rattle.plain_code.specs.laws.Zeros.{gr_fits, zeros_is, run_is}
use Rattle.plain_code.proofs.run.Goals as goal

pub returns-then-bit-eq0 : goal.returns-then-bit-eq0
returns-then-bit-eq0 c =
    let more = c.more in
    let if1 = c.if-bit-eq0 in
    let bit = c.bit in
    let a = c.args in
    let s = c.args.s.now in
    let len : length s * 8 ≡ length (bits_of s) = omega (arith, length_bits_of s) in
    c.judged.ensures ∙ zeros_is a.c.kp a.c.krp (length s * 8) (bits_of s) len a.left a.c.at bit.result bit.ensures _ _ _ if1.true
    (shift_one (a.c.kp / 8) (omega arith)) more.ensures c.state-t.ensures

pub past-next-requires : goal.past-next-requires
past-next-requires c =
    let pre = c.requires in
    let a = c.args in (
      omega arith,
      omega arith,
      rw c.golomb-g.ensures (gr_fits (a.c.krp / 8) (a.c.at + 1 + a.c.kp / 8 + 1) a.s.now (omega arith)
          pre.0).1,
    )

pub overflow_add-v : goal.overflow_add-v
overflow_add-v c =
    let golomb = c.golomb-g in
    let pre = c.requires in
    let a = c.args in
    let h : golomb.result < 2 ^ 31 = rw golomb.ensures (gr_fits (a.c.krp / 8) (a.c.at + 1 + a.c.kp / 8 + 1) a.s.now (omega arith)
    pre.0).1 in
    omega (arith, h)

pub overflow_mul-v : goal.overflow_mul-v
overflow_mul-v c =
    let golomb = c.golomb-g in
    let pre = c.requires in
    let a = c.args in
    let h : golomb.result < 2 ^ 31 = rw golomb.ensures (gr_fits (a.c.krp / 8) (a.c.at + 1 + a.c.kp / 8 + 1) a.s.now (omega arith)
    pre.0).1 in
    omega (arith, h)

pub overflow_sub-v : goal.overflow_sub-v
overflow_sub-v c =
    let bit2 = c.bit-sign in
    let args = c.args in
    let b : bit2.result < 2 = digit_lt (get_or (bits_of args.s.now) (args.c.at + 1 + args.c.kp / 8) false) bit2.ensures in omega (arith, b)

pub returns : goal.returns
returns c =
    let kr-after = c.kr_after in
    let less = c.less in
    let past = c.past-next in
    let golomb = c.golomb-g in
    let bit2 = c.bit-sign in
    let number = c.number-z in
    let if1 = c.if-bit-eq0 in
    let bit = c.bit in
    let a = c.args in
    let s = c.args.s.now in
    let len : length s * 8 ≡ length (bits_of s) = omega (arith, length_bits_of s) in
    c.judged-2.ensures ∙ run_is a.c.kp a.c.krp (length s * 8) (bits_of s) len a.left a.c.at bit.result bit.ensures number.result
    bit2.result golomb.result past.result _ _ _ if1.false number.ensures bit2.ensures golomb.ensures past.ensures
    less.ensures kr-after.ensures c.state-t-2.ensures
