-- `row::row_mask` meets its contract: a law of specs/laws/Mask for each way out. Invariant: the mask of the first k rectangles.
use Prim.Native.Nat.{◌≤◌}
use Rattle.frame_draw.specs.laws.Mask.{Masked}
use Rattle.frame_draw.proofs.row.row_mask.Given as goal

abbrev pub invariant-rectangles : goal.invariant-rectangles
invariant-rectangles l = (l.k ≤ l.n) × Masked l.rects l.k l.w l.tx l.py l.m
