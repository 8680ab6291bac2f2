-- Three patches: the rest of the message is all that follows its tiles (`take_all`).
use Prim.Native.Nat.{◌-◌}
use mathlib.Core.Path.{refl}
use native.Mathlib.Omega.{arith}
use lib.ListN.{length, drop, length-drop}
use lib.Seq.{take_all}
use Rattle.tidy.specs.Put.{closed_as}
use Rattle.tidy.proofs.frames.close_frame.Goals as goal

pub returns : goal.returns
unfolding closed_as
returns c =
    let a = c.args in
    rw (
      c.put32_at-2.ensures,
      c.put32_at.ensures,
      c.copy.ensures,
      take_all (length a.m.now - a.end) (drop a.end a.m.now)
          (omega (arith, length-drop a.end a.m.now)),
    ) refl
