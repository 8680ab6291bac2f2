-- The three kinds of turn, by k and by the mode.
use native.Mathlib.Omega.{arith}
use Rattle.code_write.proofs.put.put_turn.Goals as goal

pub twin_turn-requires : goal.twin_turn-requires
twin_turn-requires c = (rw c.if-rlgr3.true at c.requires, omega (arith, c.if-s-ge8.false))

pub returns-then-rlgr3 : goal.returns-then-rlgr3
returns-then-rlgr3 c = rw c.if-rlgr3.true c.twin_turn.ensures

pub single_turn-requires : goal.single_turn-requires
single_turn-requires c = (rw c.if-rlgr3.false at c.requires, omega (arith, c.if-s-ge8.false))

pub returns : goal.returns
returns c = rw c.if-rlgr3.false c.single_turn.ensures
