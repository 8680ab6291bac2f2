-- What the loop keeps, and what falls with each turn.
use Prim.Native.Nat.{◌+◌, ◌*◌, ◌≤◌}
use mathlib.Core.Path.{◌≡◌}
use Rattle.whole.specs.Tab.{at}
use Rattle.bands.specs.laws.Part.{Done}
use Rattle.wave_back.specs.laws.Level.{level_from}
use Rattle.plain.proofs.columns.Given as goal

abbrev pub invariant-loop-k : goal.invariant-loop-k
invariant-loop-k l = (l.k-end ≡ 2 * l.n * (2 * l.n)) × (l.k ≤ 2 * l.n * (2 * l.n)) × Done (at (level_from l.from l.n l.initial.dst)) (l.from + l.k)
    l.initial.dst l.dst
