-- What the loop keeps, and what falls with each turn.
use Prim.Native.Nat.{◌-◌, ◌≤◌}
use mathlib.Core.Path.{◌≡◌}
use lib.ListN.{length, drop}
use Rattle.settings.specs.Settings.{walk, read_settings}
use Rattle.settings.proofs.read.read_settings.Given as goal

abbrev pub invariant-loop-at : goal.invariant-loop-at
invariant-loop-at l = (l.at ≤ length l.m) × (read_settings l.newest l.m ≡ walk l.newest l.s 0 (drop l.at l.m))

abbrev pub decreases-loop-at : goal.decreases-loop-at
decreases-loop-at l = length l.m - l.at
