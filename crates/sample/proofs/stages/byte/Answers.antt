-- A byte as a signed number is itself.
use native.Mathlib.Omega.{arith}
use mir.Syntax.{w32}
use mir.Facts.{to_z_pos}
use Rattle.sample.proofs.stages.byte.Goals as goal

pub returns : goal.returns
returns c = to_z_pos w32 (omega arith)
