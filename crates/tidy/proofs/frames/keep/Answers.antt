-- The whole message is copied to the front of the output.
use mathlib.Core.Path.{refl, ap, ◌∙◌}
use native.Mathlib.Omega.{arith}
use lib.Seq.{take-length}
use Rattle.wire.specs.Le.{patch}
use Rattle.tidy.proofs.frames.keep.Goals as goal

pub returns : goal.returns
returns c =
    let a = c.args in
    record { left = c.copy.ensures ∙ ap (patch a.out.now 0) (take-length a.m.now); behind = omega arith; counts = refl }
