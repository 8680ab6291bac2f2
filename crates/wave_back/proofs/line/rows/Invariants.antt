-- `line::rows` meets its contract. Invariant: the rows below r are done.
use Prim.Native.Nat.{ℕ, ◌<◌, ◌*◌, ◌+◌}
use mathlib.Core.Path.{◌≡◌}
use Rattle.whole.specs.Tab.{at}
use Rattle.wave_back.specs.Line.{row_at}
use Rattle.wave_back.proofs.line.rows.Given as goal

abbrev pub invariant-loop-r : goal.invariant-loop-r
invariant-loop-r l =
    (y : ℕ) → y < l.r → (x : ℕ) → x < 2 * l.n → at l.out (y * (2 * l.n) + x) ≡ row_at l.n (at l.lo) (at l.hi) y x
