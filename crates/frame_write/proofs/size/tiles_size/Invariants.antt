-- `Sizing`: what is left to refuse is what is left of all, and the bytes so far with those to come are all; a tile has at most 196,624.
use Rattle.frame_write.specs.Job.{tile_sent, stop_sent}
use Rattle.frame_write.specs.laws.Encode.{Sizing}
use Rattle.frame_write.proofs.size.tiles_size.Given as goal

abbrev pub invariant-loop-i : goal.invariant-loop-i
invariant-loop-i l = Sizing (tile_sent l.job l.pixels l.picks) (stop_sent l.job l.pixels l.picks) l.n l.i l.total
