-- Each return is one row of `size_of`, and none is below 10.
use Rattle.whole.specs.laws.Row.{rows}
use Rattle.session.specs.Header.{size_of}
use native.Mathlib.Omega.{arith}
use Rattle.session.proofs.size_of.Goals as goal

pub returns-then-t-eq52417 : goal.returns-then-t-eq52417
unfolding size_of
returns-then-t-eq52417 c = (search rows, omega arith)

pub returns-then-t-eq52419 : goal.returns-then-t-eq52419
unfolding size_of
returns-then-t-eq52419 c = (search rows, omega arith)

pub returns : goal.returns
unfolding size_of
returns c = (search rows, omega arith)
