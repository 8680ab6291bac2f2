-- One law for each way out: no head, a fault of the head, of the fields, bytes behind, none; a good head says that its fields are there.
use Rattle.session.proofs.Laws.{fault_head, fault_field, fault_more, fault_none}
use borrow.Author.Tests.{lt-leb}
use lib.ListN.{length}
use mathlib.Core.Path.{refl, ◌∙◌}
use native.Mathlib.Omega.{arith}
use Rattle.wire.specs.laws.Refusal.{number_pos, number_on}
use Rattle.whole.specs.laws.Row.{fails}
use Rattle.session.specs.Header.{header_fault}
use Rattle.session.specs.laws.Header.{head_good}
use Rattle.session.proofs.header_fault.Goals as goal

pub returns-then-m-lt6 : goal.returns-then-m-lt6
unfolding header_fault
returns-then-m-lt6 c = fails _ _ _ _ (lt-leb 6 (length c.args.m.now) c.if-m-lt6.true) refl

pub returns-in_err-head_judge : goal.returns-in_err-head_judge
returns-in_err-head_judge c =
    number_on _ _ c.from_residual.ensures.1 ∙
    fault_head _ _ _ _ _ (record { some = c.if-m-lt6.false; type = c.le16_at-t.ensures.0; len = c.le32_at-size.ensures.0; is = c.in_err-head_judge.ensures })
    (number_pos _)

pub field_fault-requires : goal.field_fault-requires
field_fault-requires c = let g = head_good c.args.s _ _ _ c.in_ok-head_judge.ensures in (omega arith, omega arith, omega arith)

pub returns-in_err-field_fault : goal.returns-in_err-field_fault
returns-in_err-field_fault c =
    number_on _ _ c.from_residual-in_err-field_fault.ensures.1 ∙
    fault_field _ _ _ _ _ _
    (record { some = c.if-m-lt6.false; type = c.le16_at-t.ensures.0; len = c.le32_at-size.ensures.0; is = c.in_ok-head_judge.ensures })
    refl c.in_err-field_fault.ensures (number_pos _)

pub returns-then-m-size : goal.returns-then-m-size
returns-then-m-size c =
    fault_more _ _ _ _ _ _ (record { some = c.if-m-lt6.false; type = c.le16_at-t.ensures.0; len = c.le32_at-size.ensures.0; is = c.in_ok-head_judge.ensures })
    refl c.in_ok-field_fault.ensures refl c.if-m-size.true

pub returns : goal.returns
returns c =
    fault_none _ _ _ _ _ _ (record { some = c.if-m-lt6.false; type = c.le16_at-t.ensures.0; len = c.le32_at-size.ensures.0; is = c.in_ok-head_judge.ensures })
    refl c.in_ok-field_fault.ensures refl c.if-m-size.false
