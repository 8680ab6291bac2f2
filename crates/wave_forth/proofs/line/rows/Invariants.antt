-- `halves::rows` meets its contract. Invariant: the first r rows of both bands are done.
use Rattle.wave_forth.specs.laws.Row.{Bands}
use Rattle.wave_forth.proofs.line.rows.Given as goal

abbrev pub invariant-loop-r : goal.invariant-loop-r
invariant-loop-r l = Bands l.n l.w l.s l.src l.l l.h l.r l.initial.dst l.dst
