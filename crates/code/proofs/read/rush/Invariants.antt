-- `code::read::rush` meets its contract. The loop's invariant: the list is filled up to i (`Filling`), which is not before the first place. Assumes nothing.
use Prim.Native.Nat.{◌-◌, ◌≤◌}
use lib.ListN.{length}
use Rattle.bits.specs.Bits.{bits_of}
use Rattle.code.specs.Fill.{Filling}
use Rattle.code.proofs.read.rush.Given as goal

abbrev pub invariant-loop-i : goal.invariant-loop-i
invariant-loop-i l = Filling l.rlgr3 (length l.initial.list) (bits_of l.s) l.list l.c l.i × (l.first ≤ l.i)

abbrev pub decreases-loop-i : goal.decreases-loop-i
decreases-loop-i l = length l.initial.list - l.i
