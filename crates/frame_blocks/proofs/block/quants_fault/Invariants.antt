-- Invariant: the fault of all k bytes is that of those that are left (`quants_go_on`).
use mathlib.Core.Path.{◌≡◌}
use Prim.Native.Nat.{◌-◌, ◌+◌}
use Rattle.frame_layout.specs.Reader.{quants_fault}
use Rattle.frame_blocks.proofs.block.quants_fault.Given as goal

abbrev pub invariant-loop-b : goal.invariant-loop-b
invariant-loop-b l = quants_fault l.m l.k l.at ≡ quants_fault l.m (l.k - l.b-index) (l.at + l.b-index)
