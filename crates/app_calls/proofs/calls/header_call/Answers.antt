-- The record is that of the call inside.
use Rattle.app_calls.specs.laws.Calls.{header_made}
use Rattle.app_calls.proofs.calls.header_call.Goals as goal

pub returns : goal.returns
returns c = header_made _ _ _ _ c.header_record-after.ensures c.read_header-h.ensures
