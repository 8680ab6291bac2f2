-- `pair` meets its contract. Invariant: the first c places of both rows are done.
use Rattle.wave_forth.specs.laws.Column.{Turn}
use Rattle.wave_forth.proofs.tile.pair.Given as goal

abbrev pub invariant-loop-c : goal.invariant-loop-c
invariant-loop-c l = Turn l.n l.w l.src l.r l.c l.initial.dst l.dst
