-- Invariant: the walk over the tiles that are left, from the place that was reached, comes to what the whole walk does.
use mathlib.Core.Path.{◌≡◌}
use lib.ListN.{length}
use Prim.Native.Nat.{◌≤◌, ◌-◌}
use Rattle.frame_layout.specs.Reader.{tiles_fault}
use Rattle.tidy.specs.laws.Layout.{any_code}
use Rattle.tidy.proofs.frames.tiles_layout.Given as goal

abbrev pub invariant-loop-i : goal.invariant-loop-i
invariant-loop-i l =
    (l.at ≤ length l.d) ×
    (tiles_fault any_code l.s.width l.s.height l.q l.d l.n 0 ≡ tiles_fault any_code l.s.width l.s.height l.q l.d (l.n - l.i) l.at)
