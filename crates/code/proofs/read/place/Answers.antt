-- One law for each kind of element; that its values have a place and fit is said by `Fine` (`fine_one`, `fine_two`).
use native.Mathlib.Omega.{arith}
use lib.ListN.{length-set}
use Rattle.code.specs.laws.Place.{fine_one, fine_two, place_zeros, place_one, place_lone, place_two}
use Rattle.code.proofs.read.place.Goals as goal

pub returns-then-list-i : goal.returns-then-list-i
returns-then-list-i c = place_zeros c.args.list.now _ _ _ _ _ c.in-Zeros.is (omega arith)

pub unfolded-requires : goal.unfolded-requires
unfolded-requires c = (fine_one _ _ _ _ _ _ c.in-One.is c.requires.2).1

pub overflow_add-i : goal.overflow_add-i
overflow_add-i c = omega (arith, (fine_one _ _ _ _ _ _ c.in-One.is c.requires.2).0)

pub offset_bounds-list-i : goal.offset_bounds-list-i
offset_bounds-list-i c = omega (arith, (fine_one _ _ _ _ _ _ c.in-One.is c.requires.2).0)

pub bounds-list-i : goal.bounds-list-i
bounds-list-i c = (fine_one _ _ _ _ _ _ c.in-One.is c.requires.2).0

pub overflow_add-result-in-One : goal.overflow_add-result-in-One
overflow_add-result-in-One c = omega (arith, (fine_one _ _ _ _ _ _ c.in-One.is c.requires.2).0)

pub overflow_add-result-in-One-2 : goal.overflow_add-result-in-One-2
overflow_add-result-in-One-2 c = omega (arith, (fine_one _ _ _ _ _ _ c.in-One.is c.requires.2).0)

pub unfolded-requires-in-Two : goal.unfolded-requires-in-Two
unfolded-requires-in-Two c = (fine_two _ _ _ _ _ _ c.in-Two.is c.requires.2).0

pub overflow_sub-list-in-Two : goal.overflow_sub-list-in-Two
overflow_sub-list-in-Two c = simp length-set (omega arith)

pub returns-then-list-i-lt2 : goal.returns-then-list-i-lt2
returns-then-list-i-lt2 c =
    place_lone c.args.list.now c.args.i
    c.args.e _ _ _ _ c.in-Two.is (omega arith)
    (simp length-set at c.if-list-i-lt2.true) (record { sfits = c.unfolded-in-Two.type_inv }) c.unfolded-in-Two.ensures

pub unfolded-requires-in-Two-2 : goal.unfolded-requires-in-Two-2
unfolded-requires-in-Two-2 c =
    (fine_two _ _ _ _ _ _ c.in-Two.is c.requires.2).1 (omega (arith, simp length-set at c.if-list-i-lt2.false))

pub returns-else-list-i : goal.returns-else-list-i
returns-else-list-i c = place_zeros c.args.list.now _ _ _ _ _ c.in-Zeros.is (omega arith)

pub returns-in-One : goal.returns-in-One
returns-in-One c =
    place_one c.args.list.now c.args.i c.args.e _ _ _ _ c.in-One.is (record { sfits = c.unfolded.type_inv })
    c.unfolded.ensures

pub returns-else-list-i-lt2 : goal.returns-else-list-i-lt2
returns-else-list-i-lt2 c =
    place_two c.args.list.now c.args.i c.args.e _ _ _ _ _ c.in-Two.is (simp length-set at c.if-list-i-lt2.false)
    (record { sfits = c.unfolded-in-Two.type_inv }) c.unfolded-in-Two.ensures (record { sfits = c.unfolded-in-Two-2.type_inv })
    c.unfolded-in-Two-2.ensures
