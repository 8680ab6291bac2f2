-- Invariant: the first i values are good (`good_to`); one that is not ends it (`bad_low`, `bad_high`).
use Prim.Native.Nat.{◌≤◌}
use mathlib.Core.Bool.{true}
use mathlib.Core.Path.{◌≡◌}
use Rattle.bands.specs.Bands.{good_to}
use Rattle.bands.proofs.is_good.Given as goal

abbrev pub invariant-loop-i : goal.invariant-loop-i
invariant-loop-i l = (l.i ≤ 10) × (good_to l.q.v l.i ≡ true)
