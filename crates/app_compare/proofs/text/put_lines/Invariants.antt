-- What the loop keeps, and what falls with each turn.
use Prim.Native.Nat.{◌-◌}
use Rattle.app_compare.specs.Text.{tiles_in}
use Rattle.app_compare.specs.laws.Text.{Lining}
use Rattle.app_compare.proofs.text.put_lines.Given as goal

abbrev pub invariant-loop-j : goal.invariant-loop-j
invariant-loop-j l = Lining l.counts l.width l.height l.out l.at l.t l.k

abbrev pub decreases-loop-j : goal.decreases-loop-j
decreases-loop-j l = tiles_in l.width l.height - l.k
