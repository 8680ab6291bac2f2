-- `one` meets its contract: read with zeros past the end and judged once (`one_is`). Assumes nothing.
use Prim.Native.Nat.{◌*◌, ◌/◌}
use mathlib.Core.Path.{◌≡◌, ◌∙◌}
use native.Mathlib.Omega.{arith}
use lib.ListN.{length}
use Rattle.bits.specs.Bits.{bits_of}
use Rattle.bits.specs.laws.Bit.{length_bits_of}
use Rattle.plain_code.specs.laws.Zeros.{gr_fits, one_is}
use Rattle.plain_code.proofs.one.Goals as goal

pub past-next-requires : goal.past-next-requires
past-next-requires c =
    let args = c.args in
    let pre = c.requires in
    (omega arith, omega arith, rw c.golomb-g.ensures (gr_fits (args.c.krp / 8) args.c.at args.s.now (omega arith) pre.0).1)

pub returns : goal.returns
returns c =
    let kr-after = c.kr_after in
    let kp-one = c.kp_one in
    let past = c.past-next in
    let golomb = c.golomb-g in
    let a = c.args in
    let s = c.args.s.now in
    let len : length s * 8 ≡ length (bits_of s) = omega (arith, length_bits_of s) in
    c.judged.ensures ∙ one_is a.c.kp a.c.krp (length s * 8) (bits_of s) len a.c.at golomb.result past.result _ _ _ golomb.ensures
    past.ensures kp-one.ensures kr-after.ensures c.state-t.ensures
