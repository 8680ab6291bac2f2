-- What the loop keeps, and what falls with each turn.
use Prim.Native.Nat.{◌*◌}
use Rattle.tile_forth.specs.TileForth.{sample_at}
use Rattle.tile_forth.specs.laws.TileForth.{Loaded}
use Rattle.tile_forth.proofs.load.Given as goal

abbrev pub invariant-loop-j : goal.invariant-loop-j
invariant-loop-j l = Loaded (sample_at l.pixels l.w l.h l.tx l.ty l.c) (64 * l.j) l.work
