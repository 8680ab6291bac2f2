-- One shifted by k is 2^k (`shl_one`), and small enough to be read as signed.
use mathlib.Core.Path.{ap, ◌∙◌}
use native.Mathlib.Omega.{arith}
use lib.IntN.{pos}
use mir.Syntax.{w32}
use mir.Facts.{to_z_pos}
use Rattle.bands.specs.laws.Band.{shl_one, shl_small}
use Rattle.bands.proofs.power.Goals as goal

pub overflow_cast-result : goal.overflow_cast-result
overflow_cast-result c = record { sfits = shl_small c.args.k (omega arith) }

pub returns : goal.returns
returns c = to_z_pos w32 (shl_small c.args.k (omega arith)) ∙ ap pos (shl_one c.args.k (omega arith))
