-- `tiles_over` meets its contract.
use mathlib.Core.Path.{refl}
use native.Mathlib.Omega.{arith}
use Rattle.session.specs.Header.{tiles_over}
use Rattle.session.proofs.tiles_over.Goals as goal

pub returns : goal.returns
unfolding tiles_over
returns c = (refl, omega arith)
