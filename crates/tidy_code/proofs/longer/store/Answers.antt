-- A place of the list takes the value as it is (`same_bits`, `store_in`); the last is the number beside it (`store_last`).
use mathlib.Core.Path.{ap}
use native.Mathlib.Omega.{arith}
use lib.IntN.{ℤ}
use lib.ListN.{set}
use Rattle.code.specs.laws.Place.{same_bits}
use Rattle.tidy_code.specs.laws.Longer.{store_in, store_last}
use Rattle.tidy_code.proofs.longer.store.Goals as goal

pub returns-then-i-list : goal.returns-then-i-list
returns-then-i-list c =
    let a = c.args in
    let u = c.unfolded in
    store_in a.list.now _ a.last a.i a.v c.if-i-list.true
    (ap (λ (x : ℤ). set a.list.now a.i x) (same_bits u.result a.v (record { sfits = u.type_inv }) u.ensures))

pub returns : goal.returns
returns c = let a = c.args in store_last a.list.now a.last a.i a.v (omega (arith, c.requires, c.if-i-list.false))
