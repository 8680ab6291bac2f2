-- `bits::ones` meets its contract. The loop's invariant: the ones from here on, behind those so far, are those from the start on; a turn takes 57 ones,
-- or finds the zero behind them, or the end. Assumes nothing.
use Prim.Native.Nat.{◌≤◌, ◌-◌}
use mathlib.Core.Path.{◌≡◌}
use lib.ListN.{drop}
use Rattle.bits.specs.Bits.{bits_of, ones_of}
use Rattle.bits.proofs.ones.Given as goal

abbrev pub invariant-loop-at : goal.invariant-loop-at
invariant-loop-at l = (l.from ≤ l.at) × (ones_of (l.at - l.from) l.at (drop l.at (bits_of l.s)) ≡ ones_of 0 l.from (drop l.from (bits_of l.s)))
