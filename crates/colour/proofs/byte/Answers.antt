-- `colour::byte` meets its contract: a byte is read back from 32 bits as it is.
-- Assumes nothing.
use native.Mathlib.Omega.{arith}
use mir.Syntax.{w32}
use mir.Facts.{to_z_pos}
use Rattle.colour.proofs.byte.Goals as goal

pub returns : goal.returns
returns c = to_z_pos w32 (omega arith)
