-- `draw::asked_of` meets its contract. Invariant: the search from rectangle k on is the whole search.
use Prim.Native.Nat.{◌≤◌, ◌-◌, ◌*◌}
use mathlib.Core.Path.{◌≡◌}
use Rattle.frame_draw.specs.Draw.{some}
use Rattle.frame_draw.specs.Spans.{covers}
use Rattle.frame_draw.proofs.row.asked_of.Given as goal

abbrev pub invariant-loop-k : goal.invariant-loop-k
invariant-loop-k l =
    let on = covers l.rects (64 * l.tx) (64 * l.ty) l.right l.bottom in
    (l.k ≤ l.n) × (some on l.n 0 ≡ some on (l.n - l.k) l.k)
