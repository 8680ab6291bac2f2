-- `tiles_fault` meets its contract. Invariant: the walk over the tiles that are left, from the place that was reached, comes to what the whole walk does.
use mathlib.Core.Path.{◌≡◌}
use lib.ListN.{length}
use Prim.Native.Nat.{◌≤◌, ◌-◌}
use Rattle.frame_layout.specs.Reader.{tiles_fault}
use Rattle.frame_blocks.specs.Judged.{in_set}
use Rattle.frame.proofs.check.tiles_fault.Given as goal

abbrev pub invariant-loop-i : goal.invariant-loop-i
invariant-loop-i l =
    (l.at ≤ length l.d) × (length l.work ≡ length l.initial.work) ×
    (tiles_fault (in_set l.s.mode l.m l.sp) l.s.width l.s.height l.q l.d l.n 0 ≡ tiles_fault (in_set l.s.mode l.m l.sp) l.s.width l.s.height l.q l.d
    (l.n - l.i) l.at)
