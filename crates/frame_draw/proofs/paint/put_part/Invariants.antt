-- `put_part` meets its contract. Invariant: what is left of the stores, from the picture as it is, is all of them.
use Rattle.std.specs.Prelude.{◌≡◌, ℕ, ◌≤◌, ◌-◌, length, get_or, map}
use Rattle.frame_draw.specs.Draw.{stores, row_place}
use Rattle.frame_draw.specs.Spans.{always}
use Rattle.frame_draw.proofs.paint.put_part.Given as goal

abbrev pub invariant-loop-x : goal.invariant-loop-x
invariant-loop-x g l =
    let n = g.W.GlassWord.number in
    let put = stores always (row_place l.w l.tx l.py) (λ (j : ℕ). get_or (map n l.row) j 0) in
    (l.x ≤ l.part) × (length l.picture ≡ length l.initial.picture)
    × (put l.part 0 (map n l.initial.picture) ≡ put (l.part - l.x) l.x (map n l.picture))
