-- `caps::write::write_ack` meets its contract: refused, or written.
-- Assumes nothing.
use mathlib.Core.Path.{refl}
use Rattle.wire.specs.Le.{bytes16, bytes32}
use Rattle.wire.specs.laws.Refusal.{handed_on}
use Rattle.wire.specs.laws.Wrote.{refused, done}
use Rattle.caps.specs.Ack.{ack_of}
use Rattle.caps.specs.laws.Write.{ack_writable}
use Rattle.caps.proofs.write.write_ack.Goals as goal

pub returns-in_err-ack_fault : goal.returns-in_err-ack_fault
returns-in_err-ack_fault c = rw (handed_on _ _ c.from_residual.ensures.1) (refused _ _ _ _ c.in_err-ack_fault.ensures)

pub put_ack-requires : goal.put_ack-requires
put_ack-requires c = (ack_writable _ _ c.in_ok-ack_fault.ensures).1

pub returns : goal.returns
unfolding bytes16 bytes32 ack_of
returns c = done _ _ _ _ _ c.in_ok-ack_fault.ensures refl c.put_ack.ensures
