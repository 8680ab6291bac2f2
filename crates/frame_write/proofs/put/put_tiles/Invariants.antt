-- `Front`: the tiles so far stand in the output from the place given on.
use Rattle.frame_pieces.specs.laws.Parts.{Front}
use Rattle.frame_write.specs.Job.{tile_sent}
use Rattle.frame_write.proofs.put.put_tiles.Given as goal

abbrev pub invariant-loop-i : goal.invariant-loop-i
invariant-loop-i l = Front (tile_sent l.job l.pixels l.picks) l.n l.i l.from l.at l.initial.out l.out
