-- The loop's invariant is the component reader's (`Filling` of the crate code) over the list and the last value, at 4,097 places: an element is read and stored
-- (`longer_next`), or refused (`longer_bad`).
use Prim.Native.Nat.{◌-◌}
use Rattle.bits.specs.Bits.{bits_of}
use Rattle.code.specs.Fill.{Filling}
use Rattle.tidy_code.specs.Longer.{with_last}
use Rattle.tidy_code.proofs.longer.fill.Given as goal

abbrev pub invariant-loop-i : goal.invariant-loop-i
invariant-loop-i l = Filling l.rlgr3 4097 (bits_of l.s) (with_last l.list l.last) l.c l.i

abbrev pub decreases-loop-i : goal.decreases-loop-i
decreases-loop-i l = 4097 - l.i
