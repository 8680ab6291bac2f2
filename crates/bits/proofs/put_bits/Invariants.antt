-- `bits::put_bits` meets its contract. The loop's invariant (`Wide`): the bits that wait and the bytes put out are those that waited at first. Assumes nothing.
use Prim.Native.Nat.{◌+◌, ◌*◌, ◌-◌}
use Rattle.bits.specs.laws.Wide.{Wide}
use Rattle.bits.proofs.put_bits.Given as goal

abbrev pub invariant-loop-i : goal.invariant-loop-i
invariant-loop-i l = Wide l.initial.out l.p.at l.acc l.n l.out (l.p.at + l.i) (l.n - 8 * l.i)
