-- `halves::row` meets its contract. Invariant: the first j numbers of both halves are done, and g is the H before.
use Prim.Native.Nat.{◌-◌}
use mathlib.Core.Path.{◌≡◌}
use Rattle.wave_forth.specs.Halves.{line_high}
use Rattle.wave_forth.specs.laws.Row.{from, Split}
use Rattle.wave_forth.proofs.line.row.Given as goal

abbrev pub invariant-loop-j : goal.invariant-loop-j
invariant-loop-j l =
    (l.g ≡ line_high l.n (from l.src l.s) (l.j - 1)) × Split l.n (from l.src l.s) l.l l.h l.j l.initial.dst l.dst
