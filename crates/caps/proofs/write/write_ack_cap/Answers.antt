-- `caps::write::write_ack_cap` meets its contract: refused, or written.
-- Assumes nothing.
use mathlib.Core.Path.{refl}
use Rattle.whole.specs.laws.Row.{rows}
use Rattle.wire.specs.Le.{bytes16, bytes32}
use Rattle.wire.specs.laws.Wrote.{refused, done}
use Rattle.wire.specs.declared.Refusal.TheVariants.{Room}
use Rattle.caps.specs.AckCap.{ack_cap_of, ack_cap_fault}
use Rattle.caps.proofs.write.write_ack_cap.Goals as goal

pub returns-then-out-lt8 : goal.returns-then-out-lt8
unfolding ack_cap_fault
returns-then-out-lt8 c = refused _ Room _ _ (search rows)

pub returns : goal.returns
unfolding bytes16 bytes32 ack_cap_of ack_cap_fault
returns c =
    done _ _ _ _ _ (search rows) refl c.put_ack_cap.ensures
