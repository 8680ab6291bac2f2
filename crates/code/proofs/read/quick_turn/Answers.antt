-- `code::read::quick_turn` meets its contract: no word there, or a turn of one of the three kinds by the word that was looked at. Assumes nothing.
use native.Mathlib.Omega.{arith}
use Rattle.bits.specs.Bits.{bits_of}
use Rattle.code.specs.laws.Quick.{worded_of}
use Rattle.code.proofs.read.quick_turn.Goals as goal

pub quick_run-requires : goal.quick_run-requires
quick_run-requires c =
    let a = c.args in
    let w = worded_of a.rlgr3 a.s.now a.list.now a.c a.i _ c.requires (omega (arith, c.if-s-c.false)) c.look-w.ensures in
    (w, c.if-c-ge8.true)

pub returns-then-c-ge8 : goal.returns-then-c-ge8
returns-then-c-ge8 c =
    c.quick_run.ensures c.args.rlgr3 (bits_of c.args.s.now) c.look-w.ensures c.requires.3

pub quick_pair-requires : goal.quick_pair-requires
quick_pair-requires c =
    let a = c.args in
    let w = worded_of a.rlgr3 a.s.now a.list.now a.c a.i _ c.requires (omega (arith, c.if-s-c.false)) c.look-w.ensures in
    (w, omega (arith, c.if-c-ge8.false))

pub returns-then-rlgr3 : goal.returns-then-rlgr3
returns-then-rlgr3 c =
    rw c.if-rlgr3.true (c.quick_pair.ensures (bits_of c.args.s.now) c.look-w.ensures (rw c.if-rlgr3.true at c.requires.3))

pub quick_single-requires : goal.quick_single-requires
quick_single-requires c =
    let a = c.args in
    let w = worded_of a.rlgr3 a.s.now a.list.now a.c a.i _ c.requires (omega (arith, c.if-s-c.false)) c.look-w.ensures in
    (w, omega (arith, c.if-c-ge8.false))

pub returns : goal.returns
returns c =
    rw c.if-rlgr3.false (c.quick_single.ensures (bits_of c.args.s.now) c.look-w.ensures (rw c.if-rlgr3.false at c.requires.3))
