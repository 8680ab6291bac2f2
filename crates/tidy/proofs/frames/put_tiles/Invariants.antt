-- Invariant `SoFar`: the tiles so far stand in the output from the place given on, and are not longer than they came.
use mathlib.Core.Path.{◌≡◌}
use lib.ListN.{length}
use Rattle.tidy.specs.laws.Put.{SoFar}
use Rattle.tidy.proofs.frames.put_tiles.Given as goal

abbrev pub invariant-loop-i : goal.invariant-loop-i
invariant-loop-i l =
    (length l.list ≡ length l.initial.list) × (length l.out ≡ length l.initial.out) × SoFar l.sender l.mode l.d l.n l.i l.at l.to l.cut
    l.from l.initial.out l.out
