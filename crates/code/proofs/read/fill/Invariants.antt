-- `code::read::fill` meets its contract. The loop's invariant (`Filling`): the list is filled up to i, and the rest is what is read from the state on;
-- a turn goes by words as far as they lead, and then by an element read the slow way. Assumes nothing.
use Prim.Native.Nat.{◌-◌}
use lib.ListN.{length}
use Rattle.bits.specs.Bits.{bits_of}
use Rattle.code.specs.Fill.{Filling}
use Rattle.code.proofs.read.fill.Given as goal

abbrev pub invariant-loop-i : goal.invariant-loop-i
invariant-loop-i l = Filling l.rlgr3 (length l.initial.list) (bits_of l.s) l.list l.c l.i

abbrev pub decreases-loop-i : goal.decreases-loop-i
decreases-loop-i l = length l.initial.list - l.i
