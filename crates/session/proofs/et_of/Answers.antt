-- The definition itself; a rest modulo 16 is below 16.
use native.Mathlib.Omega.{arith}
use mathlib.Core.Path.{refl}
use Rattle.session.specs.Header.{et_of}
use Rattle.session.proofs.et_of.Goals as goal

pub returns : goal.returns
unfolding et_of
returns c = (refl, omega arith)
