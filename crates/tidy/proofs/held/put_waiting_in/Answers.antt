-- The first three bytes are set, one after the other (`three_set`).
use native.Mathlib.Omega.{arith}
use Rattle.tidy.specs.laws.Held.{three_set}
use Rattle.tidy.proofs.held.put_waiting_in.Goals as goal

pub returns : goal.returns
returns c = let a = c.args in three_set a.held.now a.w.on a.w.first a.w.second (omega (arith, c.requires))
