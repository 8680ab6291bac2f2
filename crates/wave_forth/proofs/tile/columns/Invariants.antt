-- `columns` meets its contract. Invariant: the rows of all turns below r are done, the first turn is behind and the last before (`Turned`).
use Rattle.wave_forth.specs.laws.Column.{Turns}
use Rattle.wave_forth.proofs.tile.columns.Given as goal

abbrev pub invariant-loop-r : goal.invariant-loop-r
invariant-loop-r l = Turns l.n l.w l.src l.r l.dst
