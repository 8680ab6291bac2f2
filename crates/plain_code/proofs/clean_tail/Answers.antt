-- `clean_tail` meets its contract: too many bits, or the number that they make. Assumes nothing.
use Prim.Native.Nat.{ℕ, ◌+◌, ◌*◌, ◌-◌}
use mathlib.Core.Path.{refl, sym, ap, ◌∙◌}
use native.Mathlib.Omega.{arith}
use lib.ListN.{length}
use borrow.Author.Tests.{le-ltb}
use Rattle.bits.specs.Bits.{got, bits_of}
use Rattle.bits.specs.laws.Bit.{length_bits_of}
use Rattle.code.specs.laws.Read.{tail_long, tail_got}
use Rattle.plain_code.specs.laws.Zeros.{num_whole}
use Rattle.plain_code.proofs.clean_tail.Goals as goal

pub returns-then-left-lt8 : goal.returns-then-left-lt8
returns-then-left-lt8 c =
    let args = c.args in
    let pre = c.requires in
    let s = c.args.s.now in
    let left = length s * 8 - args.at in
    tail_got s args.at pre.1 (got c.number.result (args.at + left)) _ _ (λ h. omega arith)
    (ap (λ (v : ℕ). got v (args.at + left)) c.number.ensures ∙ sym (num_whole left 0 args.at (bits_of s) (omega (arith, length_bits_of s)))) refl

pub returns-else-left-lt8 : goal.returns-else-left-lt8
returns-else-left-lt8 c =
    let args = c.args in
    let pre = c.requires in
    le-ltb _ _ c.if-left-lt8.false ∙ tail_long args.s.now args.at pre.1 c.if-left-lt8.false
