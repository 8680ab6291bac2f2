-- `bits::word::ahead` meets its contract: the bytes as one number, the bits before the place shifted out (`ahead_short`, `ahead_long`). Assumes nothing.
use Prim.Native.Nat.{◌+◌, ◌*◌, ◌≤◌, ◌<◌}
use native.Mathlib.Omega.{arith}
use lib.ListN.{length}
use Rattle.bits.specs.laws.Bytes.{Bytes}
use Rattle.bits.specs.laws.Ahead.{ahead_short, ahead_long, high_small}
use Rattle.bits.proofs.word.ahead.Goals as goal

pub returns-then-s-lt8 : goal.returns-then-s-lt8
returns-then-s-lt8 c =
    let b : Bytes c.args.s.now = λ i. omega (arith, c.type_inv.s i) in
    (ahead_short c.args.s.now c.args.at _ b c.if-s-lt8.true c.requires.1 (rw c.all_of.ensures), high_small _)

pub returns : goal.returns
returns c =
    let m = c.min-j.ensures in
    let b : Bytes c.args.s.now = λ i. omega (arith, c.type_inv.s i) in
    let far : c.min-j.result + 8 < length c.args.s.now → c.args.at ≤ 8 * c.min-j.result + 7 = λ h. omega (arith, h, m) in
    let e = ahead_long c.args.s.now c.args.at c.min-j.result _ b c.requires.1 (omega (arith, m)) (omega (arith, m, c.if-s-lt8.false)) far in
    (e (rw (c.four.ensures.0, c.four-2.ensures.0)), high_small _)
