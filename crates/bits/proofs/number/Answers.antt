-- `bits::number` meets its contract: no bits are 0, too few are cut, and else the number stands at the front of the bits ahead. Assumes nothing.
use Prim.Native.Nat.{◌+◌, ◌≤◌}
use mathlib.Core.Path.{◌≡◌, sym}
use native.Mathlib.Omega.{arith}
use lib.ListN.{length}
use Rattle.bits.specs.Bits.{bits_of}
use Rattle.bits.specs.laws.Bit.{num_end, length_bits_of}
use Rattle.bits.specs.laws.Ahead.{ahead_number, number_cut}
use Rattle.bits.proofs.number.Goals as goal

pub returns-then-k-eq0 : goal.returns-then-k-eq0
returns-then-k-eq0 c =
    let a = c.args in
    let e : a.k ≡ 0 = c.if-k-eq0.true in
    rw e (sym (num_end (bits_of a.s.now) 0 a.from))

pub returns-then-s-k : goal.returns-then-s-k
returns-then-s-k c =
    let a = c.args in
    number_cut a.s.now a.from a.k (omega (arith, c.if-s-k.true)) (omega (arith, c.if-k-eq0.false))

pub returns-then-s-k-2 : goal.returns-then-s-k-2
returns-then-s-k-2 c =
    let a = c.args in
    number_cut a.s.now a.from a.k (omega (arith, c.if-s-k-2.true)) (omega (arith, c.if-k-eq0.false))

pub returns : goal.returns
returns c =
    let a = c.args in
    let l : a.from + a.k ≤ length (bits_of a.s.now) = rw length_bits_of (omega (arith, c.if-s-k-2.false, c.if-s-k.false)) in
    ahead_number (bits_of a.s.now) a.from a.k _ c.ahead.ensures.1 c.ahead.ensures.0 (omega (arith, c.requires.1)) l
