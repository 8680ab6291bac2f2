-- `bit` meets its contract: the bit of a byte list, high bit first, and 0 past its end. Assumes nothing.
use Prim.Native.Nat.{◌≤◌}
use lib.ListN.{length}
use mathlib.Core.Path.{sym, ap, ◌∙◌}
use native.Mathlib.Omega.{arith}
use Rattle.bits.specs.Bits.{val, bits_of}
use Rattle.bits.specs.laws.Bit.{bits_of_at, val_odd, length_bits_of}
use Rattle.plain_code.specs.laws.Zeros.{past_end}
use Rattle.plain_code.proofs.bit.Goals as goal

pub returns-then-s-at : goal.returns-then-s-at
returns-then-s-at c =
    let args = c.args in
    let s = c.args.s.now in
    let h : length (bits_of s) ≤ args.at = rw length_bits_of (omega arith) in
    sym (ap val (past_end (bits_of s) args.at h))

pub returns : goal.returns
returns c =
    let args = c.args in
    sym (ap val (bits_of_at args.s.now args.at (omega arith)) ∙ val_odd _)
