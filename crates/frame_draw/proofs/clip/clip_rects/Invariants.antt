-- `clip::clip_rects` meets its contract. Invariant: the first k rectangles are kept.
use Prim.Native.Nat.{◌≤◌}
use mathlib.Core.Path.{◌≡◌}
use lib.ListN.{length}
use Rattle.frame_draw.specs.Clips.{Clips}
use Rattle.frame_draw.proofs.clip.clip_rects.Given as goal

abbrev pub invariant-loop-k : goal.invariant-loop-k
invariant-loop-k l = (l.k ≤ l.n) × (length l.clips ≡ length l.initial.clips) × Clips l.rects l.k l.w l.tx l.clips
