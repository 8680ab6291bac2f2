-- Each return is one row of `field_fault`; the type's size says that the fields are there (`size0` to `size3`).
use Rattle.whole.specs.laws.Row.{rows}
use native.Mathlib.Omega.{arith}
use Rattle.session.specs.Header.{field_fault}
use Rattle.session.specs.laws.Header.{size0, size1, size2, size3}
use Rattle.session.proofs.field_fault.Goals as goal

pub sync_fault-requires : goal.sync_fault-requires
sync_fault-requires c = omega (arith, size0 _ c.if-t-eq52416.true)

pub returns-then-t-eq52416 : goal.returns-then-t-eq52416
unfolding field_fault
returns-then-t-eq52416 c = search rows

pub versions_fault-requires : goal.versions_fault-requires
versions_fault-requires c = omega (arith, size1 _ c.if-t-eq52417.true)

pub returns-then-t-eq52417 : goal.returns-then-t-eq52417
unfolding field_fault
returns-then-t-eq52417 c = search rows

pub channels_fault-requires : goal.channels_fault-requires
channels_fault-requires c = omega (arith, size2 _ c.if-t-eq52418.true)

pub returns-then-t-eq52418 : goal.returns-then-t-eq52418
unfolding field_fault
returns-then-t-eq52418 c = search rows

pub context_fault-requires : goal.context_fault-requires
context_fault-requires c =
    omega (arith, size3 c.args.t (omega (arith, c.requires.0, c.requires.1)))

pub returns : goal.returns
unfolding field_fault
returns c = search rows
