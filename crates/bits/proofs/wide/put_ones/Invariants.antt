-- Invariant: as many ones are put as turns are made, 32 a turn (`ones_more_turn`). Assumes nothing.
use Prim.Native.Nat.{◌*◌}
use mathlib.Core.Bool.{true}
use lib.ListN.{replicate}
use Rattle.bits.specs.Pen.{PutWide}
use Rattle.bits.proofs.wide.put_ones.Given as goal

abbrev pub invariant-loop-i : goal.invariant-loop-i
invariant-loop-i l = PutWide l.initial.out l.initial.q l.out l.q (replicate (32 * l.i) true)
