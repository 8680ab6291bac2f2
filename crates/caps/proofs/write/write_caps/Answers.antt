-- `caps::write::write_caps` meets its contract: refused, or written.
-- Assumes nothing.
use Rattle.wire.specs.laws.Refusal.{handed_on}
use Rattle.wire.specs.laws.Wrote.{refused, done}
use Rattle.caps.specs.laws.Write.{caps_long, writable}
use Rattle.caps.proofs.write.write_caps.Goals as goal

pub returns-in_err-caps_fault : goal.returns-in_err-caps_fault
returns-in_err-caps_fault c = rw (handed_on _ _ c.from_residual.ensures.1) (refused _ _ _ _ c.in_err-caps_fault.ensures)

pub put_caps-requires : goal.put_caps-requires
put_caps-requires c = let w = writable _ _ c.in_ok-caps_fault.ensures in (w.few, w.fits)

pub returns : goal.returns
returns c =
    done _ _ _ _ _ c.in_ok-caps_fault.ensures (caps_long _ (writable _ _ c.in_ok-caps_fault.ensures).few) c.put_caps.ensures
