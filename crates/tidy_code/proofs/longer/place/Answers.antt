-- One law for each kind of element; that its values have a place and fit is said by `Fine` (`fine_one`, `fine_two`).
use native.Mathlib.Omega.{arith}
use mathlib.Core.Path.{refl}
use Rattle.code.specs.laws.Place.{fine_one, fine_two}
use Rattle.tidy_code.specs.laws.Longer.{all_long, placed_zeros, placed_one, placed_two, placed_lone}
use Rattle.tidy_code.proofs.longer.place.Goals as goal

pub overflow_add-i : goal.overflow_add-i
overflow_add-i c =
    omega (arith, (fine_one _ _ _ _ _ _ c.in-One.is c.requires.2).0)

pub store-l-requires : goal.store-l-requires
store-l-requires c =
    let f = fine_one _ _ _ _ _ _ c.in-One.is c.requires.2 in
    (c.requires.0, f.0, f.1)

pub overflow_add-result : goal.overflow_add-result
overflow_add-result c =
    omega (arith, (fine_one _ _ _ _ _ _ c.in-One.is c.requires.2).0)

pub overflow_add-result-in-One : goal.overflow_add-result-in-One
overflow_add-result-in-One c =
    omega (arith, (fine_one _ _ _ _ _ _ c.in-One.is c.requires.2).0)

pub store-l-requires-in-Two : goal.store-l-requires-in-Two
store-l-requires-in-Two c =
    (c.requires.0, c.requires.1, (fine_two _ _ _ _ _ _ c.in-Two.is c.requires.2).0)

pub store-k-requires : goal.store-k-requires
store-k-requires c = (
  omega (arith, c.store-l-in-Two.auto.list, c.requires.0),
  c.if-i-lt4097.true,
  (fine_two _ _ _ _ _ _ c.in-Two.is c.requires.2).1 c.if-i-lt4097.true,
)

pub returns-then-i-lt4097 : goal.returns-then-i-lt4097
returns-then-i-lt4097 c =
    let a = c.args in
    placed_two _ c.store-k.new.list a.i a.e _ _ _ c.in-Two.is (all_long a.list.now a.last c.requires.0) c.store-l-in-Two.new.list
    c.store-l-in-Two.result c.store-k.result c.if-i-lt4097.true c.store-l-in-Two.ensures c.store-k.ensures

pub returns-in-Zeros : goal.returns-in-Zeros
returns-in-Zeros c =
    let a = c.args in
    placed_zeros _ a.list.now a.i a.e _ _ c.clipped.result a.last c.in-Zeros.is c.clipped.ensures refl

pub returns-in-One : goal.returns-in-One
returns-in-One c =
    let a = c.args in
    placed_one _ c.store-l.new.list a.i a.e _ _ _ c.store-l.result c.in-One.is c.store-l.ensures

pub returns-else-i-lt4097 : goal.returns-else-i-lt4097
returns-else-i-lt4097 c =
    let a = c.args in
    placed_lone _ c.store-l-in-Two.new.list a.i a.e _ _ _ c.in-Two.is (all_long a.list.now a.last c.requires.0) c.store-l-in-Two.result
    c.if-i-lt4097.false c.store-l-in-Two.ensures
