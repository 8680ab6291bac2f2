-- The fixed bits are 8,232, and the mode stands nine bits up.
use native.Mathlib.Omega.{arith}
use Rattle.headers.specs.Headers.{properties_of}
use Rattle.headers.proofs.properties.Goals as goal

pub returns : goal.returns
unfolding properties_of
returns c = omega arith
