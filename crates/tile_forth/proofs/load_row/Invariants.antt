-- What the loop keeps, and what falls with each turn.
use Prim.Native.Nat.{◌+◌, ◌*◌}
use Rattle.tile_forth.specs.TileForth.{sample_at}
use Rattle.tile_forth.specs.laws.TileForth.{Loaded}
use Rattle.tile_forth.proofs.load_row.Given as goal

abbrev pub invariant-loop-x : goal.invariant-loop-x
invariant-loop-x l = Loaded (sample_at l.pixels l.w l.h l.tx l.ty l.c) (64 * l.j + l.x) l.work
